-- The keys of a log, listed.
use Rattle.std.specs.Prelude.{◌≡◌, ℕ, List, map, Bool, Option, is_some}
use Rattle.std.specs.List.{AllByRecursion, IsDistinct}
use Rattle.std.specs.Map.{lookup}
use Rattle.std.specs.Str.{bytes_eq}
use Rattle.warg_crypto.specs.NamedBytes.{NamedBytes}
use Rattle.warg_permissions.specs.KeyMaps.AuthorityData.{AuthorityData, AccessView}
use Rattle.warg_permissions.specs.KeyMaps.Rights.{is_listed}

-- a key of a log: its id, the key, and the permissions listed for it, if it has an entry
pub record KeyData (P : Type 0) : Type 0 where
  pub id : List ℕ
  pub key : NamedBytes
  pub permissions : Option (List P)

module _ {P : Type 0} where
  -- the keys of a list of ids and keys, with what is listed for each
  abbrev pub with_rights : List (List ℕ × List P) → List (List ℕ × NamedBytes) → List (KeyData P)
  with_rights rights keys = map (λ e. record { id = e.0; key = e.1; permissions = lookup (bytes_eq e.0) rights }) keys

  -- the keys of an authority
  abbrev pub authority_keys : AuthorityData P → List (KeyData P)
  authority_keys c = with_rights c.rights c.keys

  -- the ids and the keys alone
  abbrev pub ids_and_keys : List (KeyData P) → List (List ℕ × NamedBytes)
  ids_and_keys ks = map (λ k. (k.id, k.key)) ks

  -- the keys are all that stand in the view, each once under its id, with its entry of permissions and with what it holds
  pub record AreKeysOf (same : P → P → Bool) (view : AccessView P) (ks : List (KeyData P)) : Type 0 where
    pub known : (id : List ℕ) → lookup (bytes_eq id) (ids_and_keys ks) ≡ view.key id
    pub once : IsDistinct bytes_eq (map (λ k. k.id) ks)
    pub entries : AllByRecursion (λ k. is_some k.permissions ≡ view.has_entry k.id) ks
    pub held : AllByRecursion (λ k. (p : P) → is_listed same k.permissions p ≡ view.holds k.id p) ks

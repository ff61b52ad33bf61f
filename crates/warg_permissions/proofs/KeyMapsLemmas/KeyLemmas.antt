-- The keys of a log, listed.
use Rattle.std.proofs.Common.{◌≡◌, ℕ, Bool, List, [], ◌∷◌, map, is_some, refl, sym, ap, subst}
use Rattle.std.specs.List.{AllByRecursion, IsDistinct}
use Rattle.std.specs.Map.{lookup, keys_of}
use Rattle.std.specs.Str.{bytes_eq}
use Rattle.warg_crypto.specs.NamedBytes.{NamedBytes}
use Rattle.warg_permissions.specs.KeyMaps.AuthorityData.{AuthorityData, access_view}
use Rattle.warg_permissions.specs.KeyMaps.Keys.{with_rights, authority_keys, ids_and_keys, AreKeysOf}
use Rattle.warg_permissions.specs.KeyMaps.Rights.{is_listed}

module _ {P : Type 0} where
  same_pairs : (rights : List (List ℕ × List P)) (keys : List (List ℕ × NamedBytes)) → ids_and_keys (with_rights rights keys) ≡ keys
  same_pairs rights [] = refl
  same_pairs rights (e ∷ es) = ap (λ l. e ∷ l) (same_pairs rights es)

  same_ids : (rights : List (List ℕ × List P)) (keys : List (List ℕ × NamedBytes)) → map (λ k. k.id) (with_rights rights keys) ≡ keys_of keys
  same_ids rights [] = refl
  same_ids rights (e ∷ es) = ap (λ l. e.0 ∷ l) (same_ids rights es)

  module _ (same : P → P → Bool) (c : AuthorityData P) where
    entries : (keys : List (List ℕ × NamedBytes)) → AllByRecursion (λ k. is_some k.permissions ≡ (access_view same c).has_entry k.id) (with_rights c.rights keys)
    entries [] = tt
    entries (e ∷ es) = (refl, entries es)

    held : (keys : List (List ℕ × NamedBytes)) → AllByRecursion (λ k. (p : P) → is_listed same k.permissions p ≡ (access_view same c).holds k.id p) (with_rights c.rights keys)
    held [] = tt
    held (e ∷ es) = (λ p. refl, held es)

    -- the keys of an authority are those of its view
    pub listed : IsDistinct bytes_eq (keys_of c.keys) → AreKeysOf same (access_view same c) (authority_keys c)
    listed once = record {
      known = λ id. ap (λ es. lookup (bytes_eq id) es) (same_pairs c.rights c.keys);
      once = subst (λ ids. IsDistinct bytes_eq ids) (sym (same_ids c.rights c.keys)) once;
      entries = entries c.keys;
      held = held c.keys;
    }

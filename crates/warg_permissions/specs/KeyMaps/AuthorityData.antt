-- Who may do what in a log; and what the maps of an authority hold, as lists, and what that says.
use Rattle.std.specs.Prelude.{ℕ, List, Bool, false, Option, None, is_some}
use Rattle.std.specs.Option.{option_or}
use Rattle.std.specs.Str.{bytes_eq}
use Rattle.std.specs.Map.{lookup}
use Rattle.indexmap.specs.IndexMap.{IndexMap}
use Rattle.warg_crypto.specs.NamedBytes.{NamedBytes}
use Rattle.warg_permissions.specs.KeyMaps.Rights.{is_listed, value_over}
use Rattle.warg_crypto.specs.declared.hash.HashAlgorithm.{HashAlgorithm}

-- who may do what, and whose key is which
pub record AccessView (P : Type 0) : Type 0 where
  pub algorithm : Option HashAlgorithm
  pub holds : List ℕ → P → Bool
  pub has_entry : List ℕ → Bool
  pub key : List ℕ → Option NamedBytes

-- what stands before any entry
abbrev pub empty_access : {P : Type 0} → AccessView P
empty_access = record {
  algorithm = None;
  holds = λ k p. false;
  has_entry = λ k. false;
  key = λ k. None;
}

-- what an authority holds: the log's hash algorithm, and by key id permissions and keys
pub record AuthorityData (P : Type 0) : Type 0 where
  pub algorithm : Option HashAlgorithm
  pub rights : List (List ℕ × List P)
  pub keys : List (List ℕ × NamedBytes)

-- the permissions listed for k, if it has an entry
abbrev pub rights_at : {P : Type 0} → AuthorityData P → List ℕ → Option (List P)
rights_at c k = lookup (bytes_eq k) c.rights

-- what stands where an authority holds c
abbrev pub access_view : {P : Type 0} → (P → P → Bool) → AuthorityData P → AccessView P
access_view same c = record {
  algorithm = c.algorithm;
  holds = λ k p. is_listed same (rights_at c k) p;
  has_entry = λ k. is_some (rights_at c k);
  key = λ k. lookup (bytes_eq k) c.keys;
}

-- what stands where the changes d lie over c
abbrev pub access_view_over : {P : Type 0} → (P → P → Bool) → AuthorityData P → AuthorityData P
    → AccessView P
access_view_over same c d = record {
  algorithm = option_or d.algorithm c.algorithm;
  holds = λ k p. is_listed same (value_over c.rights d.rights k) p;
  has_entry = λ k. is_some (value_over c.rights d.rights k);
  key = value_over c.keys d.keys;
}

-- what maps say, as their lists
abbrev pub authority_data : {P Z X : Type 0} → Option HashAlgorithm → IndexMap (List ℕ) (List P) Z
    → IndexMap (List ℕ) NamedBytes X
    → AuthorityData P
authority_data algorithm permissions keys = record {
  algorithm = algorithm;
  rights = permissions.entries;
  keys = keys.entries;
}

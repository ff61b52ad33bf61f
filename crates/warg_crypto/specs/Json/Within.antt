-- Which texts stand in JSON.
use Rattle.std.specs.Prelude.{◌≡◌, ◌⊎◌, ℕ, List}
use Rattle.std.specs.List.{AllByRecursion}
use Rattle.semver.specs.Identifiers.{parts_text}
use Rattle.serde_json.specs.Data.{Data, null, boolean, number, string, array, object, Items, no_items, item, Members, no_members, member}
use Rattle.warg_crypto.specs.Json.Json.{Version}

abbrev mutual
  -- the text is that of the value, or of one of its items, members and their names
  pub IsWithin : List ℕ → Data → Type 0
  IsWithin t null = ⊥
  IsWithin t (boolean b) = ⊥
  IsWithin t (number n) = ⊥
  IsWithin t (string s) = t ≡ s
  IsWithin t (array ds) = IsInItems t ds
  IsWithin t (object ms) = IsInMembers t ms

  pub IsInItems : List ℕ → Items → Type 0
  IsInItems t no_items = ⊥
  IsInItems t (item d ds) = IsWithin t d ⊎ IsInItems t ds

  pub IsInMembers : List ℕ → Members → Type 0
  IsInMembers t no_members = ⊥
  IsInMembers t (member name d ms) = (t ≡ name) ⊎ (IsWithin t d ⊎ IsInMembers t ms)

-- the text of each version stands in the JSON
abbrev pub AreWithin : List Version → Data → Type 0
AreWithin versions d = AllByRecursion (λ v. IsWithin (parts_text v) d) versions

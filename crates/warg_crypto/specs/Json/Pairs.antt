-- Objects as maps from names to values: their pairs, in the order of the members, which is the byte
-- order of the names.
use Rattle.std.specs.Prelude.{◌≡◌, ⊤, ℕ, List, [], ◌∷◌, map, Option, Some, None, Result, Ok}
use Rattle.std.specs.Cmp.Lexicographic.{slice_cmp}
use Rattle.std.specs.List.Sorted.{IsStrictlySortedBy}
use Rattle.std.specs.Map.{lookup}
use Rattle.std.specs.Ordering.{nat_cmp}
use Rattle.std.specs.Str.{bytes_eq}
use Rattle.serde_json.specs.Data.{Data, Members, no_members, member, object, put}
use Rattle.serde_json.specs.Find.{get_member}
use Rattle.warg_crypto.specs.declared.json.error.JsonError.{JsonError}
use Rattle.warg_crypto.specs.Json.Json.{◌>>=◌, members_in, json_result}

-- the names of the members, in order
abbrev pub names_of : Members → List (List ℕ)
names_of no_members = []
names_of (member name d more) = name ∷ names_of more

-- the names ascend in byte order, so none stands twice
abbrev pub AreAscending : List (List ℕ) → Type 0
AreAscending names = IsStrictlySortedBy (slice_cmp nat_cmp) names

-- the pairs as plain data
abbrev pub plain_pairs : {K V A B : Type 0} → (K → A) → (V → B) → List (K × V) → List (A × B)
plain_pairs name value es = map (λ e. (name e.0, value e.1)) es

module _ {K A : Type 0} (named : List ℕ → Result K JsonError) (reads : Data → Result A JsonError) where
  -- the pairs of the members, in order: of each the name, then the value
  abbrev pub pairs_of : Members → Result (List (K × A)) JsonError
  pairs_of no_members = Ok []
  pairs_of (member name d more) = named name >>= λ k. reads d >>= λ x. pairs_of more >>= λ rest. json_result ((k, x) ∷ rest)

  -- the pairs of a value that is an object, in the order of its members
  abbrev pub pairs_in : Data → Result (List (K × A)) JsonError
  pairs_in d = members_in d >>= pairs_of

  -- none where there is none
  abbrev pub pairs_or_none : Option Data → Result (List (K × A)) JsonError
  pairs_or_none None = Ok []
  pairs_or_none (Some d) = pairs_in d

  -- the pairs of the member of that name, which may be missing, of a value that is an object
  abbrev pub pairs_member : List ℕ → Data → Result (List (K × A)) JsonError
  pairs_member name d = members_in d >>= λ ms. pairs_or_none (get_member name ms)

module _ {K A : Type 0} (name_of : K → List ℕ) (writes : A → Result Data JsonError) where
  -- the members, with those of the pairs put in turn
  abbrev pub pairs_onto : Members → List (K × A) → Result Members JsonError
  pairs_onto ms [] = Ok ms
  pairs_onto ms (e ∷ es) = writes e.1 >>= λ d. pairs_onto (put (name_of e.0) d ms) es

  -- the object of the pairs, each value under its key's name
  abbrev pub pairs_json : List (K × A) → Result Data JsonError
  pairs_json es = pairs_onto no_members es >>= λ ms. json_result (object ms)

  -- none where there are none
  abbrev pub some_pairs_json : List (K × A) → Result (Option Data) JsonError
  some_pairs_json [] = Ok None
  some_pairs_json (e ∷ es) = pairs_json (e ∷ es) >>= λ d. json_result (Some d)

module _ {K A : Type 0} (name_of : K → List ℕ) where
  -- what the first of the pairs with the name q has
  abbrev pub value_at : List ℕ → List (K × A) → Option A
  value_at q es = lookup (λ k. bytes_eq q (name_of k)) es

  -- no two pairs have one name
  abbrev pub IsUniquePairs : List (K × A) → Type 0
  IsUniquePairs [] = ⊤
  IsUniquePairs (e ∷ es) = (value_at (name_of e.0) es ≡ None) × IsUniquePairs es

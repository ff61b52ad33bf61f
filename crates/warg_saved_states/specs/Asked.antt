-- What is asked of JSON: the members of some names, and of what is no object its text or number.
use Rattle.std.specs.Prelude.{ℕ, zero, suc, ◌≡◌, ◌<◌, ◌≤◌, ◌==◌, ⊤, List, length, map, Bool, true, false, Option, Some, None}
use Rattle.std.specs.Borrow.{Bor}
use Rattle.std.specs.List.{list_any}
use Rattle.std.specs.Str.{bytes_eq}
use Rattle.serde_json.specs.Data.{Data, Members, null, put}
use Rattle.serde_json.specs.Find.{as_null, as_number, as_object, as_str, get_member}
use Rattle.serde_json.specs.Read.{read}
use Rattle.warg_crypto.specs.Json.Members.{SameOptions}
use Rattle.warg_crypto.specs.Json.Pairs.{names_of}
use Rattle.warg_saved_states.specs.declared.error.JsonTextError.{JsonTextError}
use Rattle.warg_saved_states.specs.declared.error.JsonTextError.TheVariants.{NotJson, OutOfMemory}
use Rattle.warg_saved_states.specs.declared.error.ReadFault.{ReadFault}
use Rattle.warg_saved_states.specs.declared.error.ReadFault.TheVariants as fault

-- a fault of a text as callers see it
abbrev pub fault_of : ReadFault → JsonTextError
fault_of fault.NotJson = NotJson
fault_of fault.GivenUp = OutOfMemory
fault_of fault.OutOfMemory = OutOfMemory

-- the texts behind references
abbrev pub texts : List (Bor (List ℕ)) → List (List ℕ)
texts names = map (λ name. name.now) names

-- the name is one of those
abbrev pub is_asked : List (List ℕ) → List ℕ → Bool
is_asked names name = list_any (λ other. bytes_eq other name) names

-- v is null, a text or a number exactly where d is, and the same one; and they are objects whose members are related, or
-- neither is one
pub record IsLike (R : Members → Members → Type 0) (d v : Data) : Type 0 where
  pub none : as_null v ≡ as_null d
  pub text : as_str v ≡ as_str d
  pub number : as_number v ≡ as_number d
  pub object : SameOptions R (as_object d) (as_object v)

-- whether there is one member
abbrev pub is_single : Members → Bool
is_single ms = length (names_of ms) == 1

-- the members of those names are related, and there is one member in both, or in neither
pub record AreTaken (names : List (List ℕ)) (R : Data → Data → Type 0) (all found : Members) : Type 0 where
  pub same : (name : List ℕ) → is_asked names name ≡ true → SameOptions R (get_member name all) (get_member name found)
  pub single : is_single found ≡ is_single all

-- the members of those names are taken, as far as n objects inside one another
abbrev pub AreAskedOf : List (List ℕ) → ℕ → Members → Members → Type 0
AreAskedOf names zero all found = ⊤
AreAskedOf names (suc n) all found = AreTaken names (λ d v. IsLike (AreAskedOf names n) d v) all found

-- v is what is asked of d: the members of those names, as far as n objects inside one another
abbrev pub IsAskedOf : List (List ℕ) → ℕ → Data → Data → Type 0
IsAskedOf names n d v = IsLike (AreAskedOf names n) d v

-- what became of the members that were taken, after another of that name was read
pub data IsTaken (names : List (List ℕ)) (n : ℕ) (name : List ℕ) (d : Data) (old new : Members) : Type 0 where
  -- it is asked for
  asked : (v : Data) → is_asked names name ≡ true → IsAskedOf names n d v → new ≡ put name v old → IsTaken names n name d old new
  -- its name is kept, since there are few
  counted : is_asked names name ≡ false → length (names_of old) < 2 → new ≡ put name null old → IsTaken names n name d old new
  -- it is passed over
  passed : is_asked names name ≡ false → 2 ≤ length (names_of old) → new ≡ old → IsTaken names n name d old new

-- v is what is asked of the text's JSON
pub record IsAskedOfText (names : List (List ℕ)) (n : ℕ) (text : List ℕ) (v : Data) : Type 0 where
  pub whole : Data
  pub is : read text ≡ Some whole
  pub asked : IsAskedOf names n whole v

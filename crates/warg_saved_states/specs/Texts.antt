-- The members of an object as texts, of which the object's text is joined.
use Rattle.std.specs.Prelude.{ℕ, ◌≡◌, ◌+◌, List, [], ◌∷◌, ◌++◌, length, map, String, string_bytes, Bool, true, ⊤, IfOk, Some, Result, Ok}
use Rattle.std.specs.Borrow.{Bor}
use Rattle.std.specs.declared.alloc.Global.{Global}
use Rattle.serde_json.specs.Data.{Data, Members, no_members, member, string}
use Rattle.serde_json.specs.Read.{read}
use Rattle.serde_json.specs.Written.{comma_if, compact_text}
use Rattle.warg_crypto.specs.declared.json.error.JsonError.{JsonError}
use Rattle.warg_crypto.specs.Json.Json.{◌>>=◌, ReturnsOrNoMemory, json_result}

-- the text of what is written, with no space
abbrev pub text_of : Result Data JsonError → Result (List ℕ) JsonError
text_of r = r >>= λ d. json_result (compact_text d)

-- the text is read as what is written, if anything is
abbrev pub IsReadAs : Result Data JsonError → List ℕ → Type 0
IsReadAs r text = IfOk r (λ d. read text ≡ Some d)

-- the members in order, each its name and the text of its value
abbrev pub texts_of : Members → List (List ℕ × List ℕ)
texts_of no_members = []
texts_of (member name d more) = (name, compact_text d) ∷ texts_of more

-- the texts of members, where they could be written
abbrev pub texts_in : Result Members JsonError → Result (List (List ℕ × List ℕ)) JsonError
texts_in r = r >>= λ ms. json_result (texts_of ms)

-- the members as text: each its name, a colon and its text, with commas between them and the closing brace
abbrev pub object_rest : Bool → List (List ℕ × List ℕ) → List ℕ
object_rest later [] = 125 ∷ []
object_rest later (e ∷ es) = comma_if later ++ (compact_text (string e.0) ++ 58 ∷ (e.1 ++ object_rest true es))

-- how long the text of the members is at most, where no name has to be escaped: two for the braces, and of each member its
-- name, its text, and four for the quotes, the colon and the comma
abbrev pub room_of : List (List ℕ × List ℕ) → ℕ
room_of [] = 2
room_of (e ∷ es) = length e.0 + length e.1 + 4 + room_of es

-- what a map from names to texts holds
abbrev pub texts_view : List (String Global × String Global) → List (List ℕ × List ℕ)
texts_view es = map (λ e. (string_bytes e.0, string_bytes e.1)) es

-- What a call did to members that are held as texts is what `puts` does to the members, unless memory ran out.
abbrev pub PutsText : {X : Type 0} → (Members → Result Members JsonError) → Result X JsonError
    → List (List ℕ × List ℕ) → List (List ℕ × List ℕ) → Type 0
PutsText puts result old new =
    (ms : Members) → old ≡ texts_of ms → ReturnsOrNoMemory (λ _. new) result (texts_in (puts ms))

module _ {V A : Type 0} (plain : V → A) (writes : A → Result Data JsonError) where
  -- the members are the JSON of the values by these names
  abbrev pub AreMembers : List (String Global × Bor V) → Members → Type 0
  AreMembers [] no_members = ⊤
  AreMembers (e ∷ es) (member name d more) = (string_bytes e.0 ≡ name) × (writes (plain e.1.now) ≡ Ok d) × AreMembers es more
  AreMembers [] (member name d more) = ⊥
  AreMembers (e ∷ es) no_members = ⊥

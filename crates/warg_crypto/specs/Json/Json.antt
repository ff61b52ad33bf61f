-- What is written and read of JSON: each reader is a function to its value, or the first fault.
use Rattle.std.specs.Prelude.{ℕ, ◌≡◌, List, Option, Some, None, Result, Ok, Err, MatchResult}
use Rattle.std.specs.List.{AllByRecursion}
use Rattle.semver.specs.Identifiers.{parts_text}
use Rattle.semver.specs.Parse.{version_parts}
use Rattle.serde_json.specs.Data.{Data, Members, Items}
use Rattle.serde_json.specs.Find.{as_array, as_object, as_str, get_member}
use Rattle.warg_crypto.specs.OutcomeResults.{ReturnsOr}
use Rattle.warg_crypto.specs.declared.json.error.JsonError.{JsonError}
use Rattle.warg_crypto.specs.declared.json.error.JsonError.TheVariants as fault

-- r, seen by view, is want
abbrev pub Returns : {X Y : Type 0} → (X → Y) → Result X JsonError → Result Y JsonError → Type 0
Returns view r want = MatchResult r (λ x. want ≡ Ok (view x)) (λ e. want ≡ Err e)

-- The same, unless memory ran out.
abbrev pub ReturnsOrNoMemory : {X Y : Type 0} → (X → Y) → Result X JsonError → Result Y JsonError → Type 0
ReturnsOrNoMemory view r want = ReturnsOr fault.OutOfMemory view r want

-- What d reads as is equivalent to x.
pub record ReadsBack {A : Type 0} (reads : Data → Result A JsonError) (equivalent : A → A → Type 0) (x : A) (d : Data)
    : Type 0 where
  pub again : A
  pub is : reads d ≡ Ok again
  pub equal : equivalent x again

-- A version: its three numbers, the text before its release and the text of its build.
abbrev pub Version : Type 0
Version = ℕ × ℕ × ℕ × List ℕ × List ℕ

-- the text of each version reads back as the version
abbrev pub AreReadBack : List Version → Type 0
AreReadBack versions = AllByRecursion (λ v. version_parts (parts_text v) ≡ Ok v) versions

-- what was written of x reads back as an equivalent value
abbrev pub IsReadBack : {A : Type 0} → (A → Result Data JsonError) → (Data → Result A JsonError)
    → (A → A → Type 0) → A
    → Type 0
IsReadBack writes reads equivalent x = (d : Data) → writes x ≡ Ok d → ReadsBack reads equivalent x d

-- what is written
abbrev pub json_result : {A : Type 0} → A → Result A JsonError
json_result x = Ok x

infixl 10 ◌>>=◌
-- the first step's value is handed on, its fault is the answer
abbrev pub ◌>>=◌ : {A B : Type 0} → Result A JsonError → (A → Result B JsonError) → Result B JsonError
(Ok x) >>= f = f x
(Err e) >>= f = Err e

-- what is there, or the fault
abbrev pub some_or : {A : Type 0} → JsonError → Option A → Result A JsonError
some_or e (Some x) = Ok x
some_or e None = Err e

-- any other fault stands for a text outside its grammar
abbrev pub or_bad_text : {A E : Type 0} → Result A E → Result A JsonError
or_bad_text (Ok x) = Ok x
or_bad_text (Err e) = Err fault.BadText

-- the text that the value is; any other value is of the wrong type
abbrev pub text_in : Data → Result (List ℕ) JsonError
text_in d = some_or fault.WrongType (as_str d)

-- the members of the value, which must be an object
abbrev pub members_in : Data → Result Members JsonError
members_in d = some_or fault.WrongType (as_object d)

-- the items of the value, which must be an array
abbrev pub items_in : Data → Result Items JsonError
items_in d = some_or fault.WrongType (as_array d)

-- the member of that name, which must be there, of a value that is an object
abbrev pub member_in : List ℕ → Data → Result Data JsonError
member_in name d = members_in d >>= λ ms. some_or fault.Missing (get_member name ms)

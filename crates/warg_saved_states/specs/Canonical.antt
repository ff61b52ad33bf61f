-- JSON whose text is read as it.
use Rattle.std.specs.Prelude.{ℕ, ◌≡◌, zero, suc, ◌<◌, ◌^◌, ⊤, false, IfOk, Result}
use Rattle.serde_json.specs.Data.{Num, unsigned, negative, float, Data, null, boolean, number, string, array, object, Items, no_items, item, Members, no_members, member}
use Rattle.serde_json.specs.Written.{has_float}
use Rattle.warg_crypto.specs.declared.json.error.JsonError.{JsonError}
use Rattle.warg_crypto.specs.Json.Pairs.{AreAscending, names_of}

-- what is written, if anything is, has no float
abbrev pub HasNoFloat : Result Data JsonError → Type 0
HasNoFloat r = IfOk r (λ d. has_float d ≡ false)

-- a whole number of 64 bits
abbrev pub IsWholeNumber : Num → Type 0
IsWholeNumber (unsigned n) = n < 2 ^ 64
IsWholeNumber (negative z) = ⊥
IsWholeNumber (float x) = ⊥

-- Nested at most n deep, with no numbers but whole ones of 64 bits, and the names of each object ascend.
abbrev mutual
  pub IsCanonical : ℕ → Data → Type 0
  IsCanonical n null = ⊤
  IsCanonical n (boolean b) = ⊤
  IsCanonical n (number x) = IsWholeNumber x
  IsCanonical n (string s) = ⊤
  IsCanonical zero (array ds) = ⊥
  IsCanonical (suc n) (array ds) = AreCanonical n ds
  IsCanonical zero (object ms) = ⊥
  IsCanonical (suc n) (object ms) = AreCanonicalIn n ms × AreAscending (names_of ms)

  pub AreCanonical : ℕ → Items → Type 0
  AreCanonical n no_items = ⊤
  AreCanonical n (item d more) = IsCanonical n d × AreCanonical n more

  pub AreCanonicalIn : ℕ → Members → Type 0
  AreCanonicalIn n no_members = ⊤
  AreCanonicalIn n (member name d more) = IsCanonical n d × AreCanonicalIn n more

-- what is written, if anything is, is canonical
abbrev pub WritesCanonical : ℕ → Result Data JsonError → Type 0
WritesCanonical n r = IfOk r (IsCanonical n)

-- the members that are put, if any are, make a canonical object
abbrev pub PutsCanonical : ℕ → Result Members JsonError → Type 0
PutsCanonical n r = IfOk r (λ ms. IsCanonical n (object ms))

-- how deep a value of a state's map may be nested: JSON is read to a depth of 127, and two objects are around the value
abbrev pub value_depth : ℕ
value_depth = 125

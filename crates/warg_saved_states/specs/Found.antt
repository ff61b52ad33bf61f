-- What was read of the members of an object, by their names.
use Rattle.std.specs.Prelude.{ℕ, ◌≡◌, ⊤, List, [], ◌∷◌, Result, Ok, Err}
use Rattle.std.specs.Borrow.{Bor}
use Rattle.std.specs.declared.alloc.Global.{Global}
use Rattle.std.specs.declared.boxed.Box.{Box}
use Rattle.serde_json.specs.Data.{Data, Members, no_members, member}
use Rattle.warg_crypto.specs.Json.Json.{Returns}
use Rattle.warg_crypto.specs.declared.json.error.JsonError.{JsonError}

-- of each member its value was read, or the value's first fault
abbrev pub AreFound : {X A : Type 0} → (X → A) → (Data → Result A JsonError) → List (Bor (List ℕ) × Result X JsonError) → Members → Type 0
AreFound plain reads [] no_members = ⊤
AreFound plain reads (e ∷ es) (member name d ms) = (e.0.now ≡ name) × Returns plain e.1 (reads d) × AreFound plain reads es ms
AreFound plain reads [] (member name d ms) = ⊥
AreFound plain reads (e ∷ es) no_members = ⊥

-- what was read, out of its place
abbrev pub unboxed : {X : Type 0} → Result (Box X Global) JsonError → Result X JsonError
unboxed (Ok b) = Ok b.value
unboxed (Err e) = Err e

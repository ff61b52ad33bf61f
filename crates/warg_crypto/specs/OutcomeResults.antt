-- What a call returns.
use Rattle.std.specs.Prelude.{◌≡◌, ◌⊎◌, Result, Ok, Err, MatchResult}

-- r, seen by view, is want, unless it is the error no_memory
abbrev pub ReturnsOr : {X Y E : Type 0} → E → (X → Y) → Result X E → Result Y E → Type 0
ReturnsOr no_memory view r want = MatchResult r (λ x. want ≡ Ok (view x)) (λ e. (e ≡ no_memory) ⊎ (want ≡ Err e))

-- Where a text that was found has no room.
use Rattle.std.proofs.Common.{◌≡◌, ◌≢◌, inl, inr, ℕ, List, Result, Ok, Err, sym, ◌∙◌, arith}
use Rattle.std.specs.Prelude.{IfOk, IfErr}
use Rattle.warg_c.specs.Statuses.{WARG_TOO_SMALL}
use Rattle.warg_c.specs.Texts.{ErrorsAs, IsFinish, NeedsRoom}
use Rattle.warg_c.specs.declared.call_error.CallError.{CallError}
use Rattle.warg_c.specs.declared.call_error.CallError.TheVariants.{TooSmall}
use Rattle.warg_c.proofs.Codes.{same-code}

-- nothing was found, and not for want of room
pub errors-other : (Takes Lacks IsBad : Type 0) → (f : CallError) → ErrorsAs Takes Lacks IsBad f → f ≢ TooSmall
errors-other Takes Lacks IsBad f (inl (is, _)) small = cc
errors-other Takes Lacks IsBad f (inr (inl (is, _))) small = cc
errors-other Takes Lacks IsBad f (inr (inr (is, _))) small = cc

pub finish-needs : {V A : Type 0} → (Tells : List A → Type 0) (items : V → List A) (r : Result V CallError) (old : List A) (n used : ℕ) (new : List A)
    → IsFinish items r old n used new → IfOk r (λ v. Tells (items v)) → IfErr r (λ f. f ≢ TooSmall) → n ≡ WARG_TOO_SMALL → NeedsRoom Tells used old
finish-needs Tells items (Ok v) old n used new (len, inl (done, _)) told other small = absurd (omega arith)
finish-needs Tells items (Ok v) old n used new (len, inr (_, short)) told other small = (items v, told, len, short)
finish-needs Tells items (Err f) old n used new is told other small = absurd (other (same-code f TooSmall (sym is ∙ small)))

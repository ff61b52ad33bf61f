use Rattle.std.proofs.Common.{◌≢◌, ℕ, ◌<◌, arith, subst, sym}
use Rattle.warg_modular.specs.Value.{value}
use Rattle.warg_p256.proofs.FieldElements.{n_is}
use Rattle.warg_p256.proofs.AddedPoint.{not_zero}
use Rattle.warg_p256.proofs.signature.is_scalar.Goals as goal

pub returns-then-not-is_zero : goal.returns-then-not-is_zero
returns-then-not-is_zero c =
    let v : ℕ = value c.args.a in
    let some : v ≢ 0 = not_zero _ _ c.is_zero.ensures c.if-not-is_zero.true in (
      λ h. (omega arith, subst (λ n. v < n) n_is (c.is_less.ensures.0 h)),
      λ h. c.is_less.ensures.1 (subst (λ n. v < n) (sym n_is) h.1),
    )

use Rattle.std.proofs.Common.{◌<◌, ◌∙◌, subst, arith}
use Rattle.std.proofs.Math.Nat.{mod-eq_of_lt}
use Rattle.warg_modular.specs.Value.{value}
use Rattle.warg_p256.proofs.FieldElements.{p_is}
use Rattle.warg_p256.proofs.Signatures.{not_less}
use Rattle.warg_p256.proofs.sec1.coordinate.Goals as goal

pub returns-then-is_less-clause-some : goal.returns-then-is_less-clause-some
returns-then-is_less-clause-some c = c.to_montgomery.ensures ∙ mod-eq_of_lt (subst (λ q. value c.from_be_bytes-x.result < q) p_is (c.is_less.ensures.0 c.if-is_less.true)) ∙ c.from_be_bytes-x.ensures

pub returns-clause-none : goal.returns-clause-none
returns-clause-none c = let h = not_less _ _ _ c.is_less.ensures c.if-is_less.false in omega (arith, h, p_is, c.from_be_bytes-x.ensures)

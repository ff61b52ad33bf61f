use Rattle.warg_curve.specs.Curve.{Point}
use Rattle.warg_curve.specs.Group.{IsOnCurve}
use Rattle.warg_p256.specs.Rows.{Stands, AreMultiples}
use Rattle.warg_p256.proofs.Combinations.{partial_sum}
use Rattle.warg_p256.proofs.combination.add_word.Given as goal

abbrev pub invariant-loop-i : goal.invariant-loop-i
invariant-loop-i l = (a q : Point) → IsOnCurve a → IsOnCurve q → Stands l.fn.p a → AreMultiples q 0 l.fn.table → Stands l.r (partial_sum a q l.fn.k l.fn.l l.i)

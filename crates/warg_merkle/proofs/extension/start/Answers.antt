use Rattle.std.proofs.Common.{◌≡◌, ◌%◌, arith}
use Rattle.warg_merkle.proofs.JoinLevels.{starts_more, starts_place, starts_sides}
use Rattle.warg_merkle.proofs.extension.start.Goals as goal

pub loop-at-preserved : goal.loop-at-preserved
loop-at-preserved c = starts_more c.loop-at.at c.loop-at.end _ _ c.loop-at-test.true c.loop-at.invariant

pub returns-clause-place : goal.returns-clause-place
returns-clause-place c = let even : c.loop-at.at % 2 ≡ 0 = omega (arith, c.loop-at-test.false) in starts_place c.loop-at.at c.loop-at.end _ _ even c.loop-at.invariant

pub returns-clause-sides : goal.returns-clause-sides
returns-clause-sides c = let even : c.loop-at.at % 2 ≡ 0 = omega (arith, c.loop-at-test.false) in starts_sides c.loop-at.at c.loop-at.end _ _ even c.loop-at.invariant

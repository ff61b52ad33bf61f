use mathlib.Core.Path.{sym, ◌∙◌}
use mathlib.Core.Bool.{true≢false}
use native.Mathlib.Omega.{arith}
use borrow.Author.Count.{below_more}
use Rattle.warg_maps.specs.Index.{IsAt}
use Rattle.warg_maps.proofs.index.find_among_all.Goals as goal

pub loop-at-preserved : goal.loop-at-preserved
loop-at-preserved g c =
    below_more (λ k. IsAt (g.Q.Query.equivalent c.args.key) c.args.keys.now k → ⊥) c.loop-at.at c.loop-at.invariant
    (λ there. true≢false (sym (c.is_at.ensures.1 there) ∙ c.if-is_at.false))

pub returns-clause-missed : goal.returns-clause-missed
returns-clause-missed g c i there = c.loop-at.invariant i (omega (arith, there.within, c.loop-at-test.false, c.loop-at.auto.at-end)) there

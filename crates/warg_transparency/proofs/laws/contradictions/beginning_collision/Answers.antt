use Rattle.std.proofs.Common.{inl, inr}
use Rattle.warg_transparency.proofs.laws.contradictions.beginning_collision.Goals as goal

pub returns-clause-collision : goal.returns-clause-collision
returns-clause-collision c = λ new one other is.
    elim (c.one_beginning.ensures new one.checkpoint.now other.checkpoint.now one.proof.now other.proof.now is.one_length is.shown.one_is is.shown.other_is) [
      | inl same ↦ absurd (is.differ same)
      | inr found ↦ found
    ]

pub returns-clause-fork : goal.returns-clause-fork
returns-clause-fork c = λ new one other is. c.one_checkpoint.ensures.fork one.checkpoint.now other.checkpoint.now is.fork

use Rattle.std.proofs.Common.{inl, inr}
use mathlib.Core.Path.{sym, ◌∙◌}
use mathlib.Core.Bool.{true≢false}
use Rattle.warg_maps.proofs.IndexLemmas.{on-none}
use Rattle.warg_maps.proofs.index.Index.find_further.Goals as goal

pub returns-then-self-clause-missed : goal.returns-then-self-clause-missed
returns-then-self-clause-missed g c = on-none c.find_among_all.result c.find_among_all.ensures.missed (λ missed i k stands e at. missed i at)

pub returns-clause-missed : goal.returns-clause-missed
returns-clause-missed g c i k stands e at =
    elim e.entry [
      | inl lacks ↦ true≢false (sym lacks ∙ c.if-self.false)
      | inr there ↦ c.in_default.ensures.missed i k stands there at
    ]

use Rattle.std.proofs.Common.{refl, sym, ◌∙◌, subst}
use Rattle.warg_replay.proofs.beside.Beside.value_of.Goals as goal

pub returns : goal.returns
returns g c = subst (λ l. g.T.MadeOf.made_of l c.self.inside.value) (sym c.as_slice.ensures.value ∙ c.if-not-is_same.ensures.0 refl) c.self.invariant

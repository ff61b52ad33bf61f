use Rattle.std.proofs.Common.{sym, subst}
use Rattle.warg_replay.proofs.beside.Beside.with_copy.Goals as goal

pub invariant_of-result : goal.invariant_of-result
invariant_of-result g c = subst (λ l. g.T.MadeOf.made_of l c.args.value) (sym c.in_ok-copy.ensures.items) c.requires

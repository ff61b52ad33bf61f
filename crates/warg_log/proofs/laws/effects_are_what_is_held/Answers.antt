use Rattle.warg_log.specs.Rules.{start}
use Rattle.warg_log.proofs.KindLaws.{held-view}
use Rattle.warg_log.proofs.laws.effects_are_what_is_held.Goals as goal

pub returns : goal.returns
returns g c = λ read es k p. held-view g.M.OwnState.rules g.M.Permission.PartialEq.eq read (g.M.OwnState.rules.after g.M.OwnState.rules.start) k p (start g.M.OwnState.rules g.M.Permission.PartialEq.eq) es

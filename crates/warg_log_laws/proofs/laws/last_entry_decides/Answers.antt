use Rattle.warg_log.specs.History.{last_on}
use Rattle.warg_log_laws.specs.RuledLogs.{history}
use Rattle.warg_log_laws.proofs.Holdings.{given}
use Rattle.warg_log_laws.proofs.laws.last_entry_decides.Goals as goal

pub returns : goal.returns
returns g c = λ es k p. let l = g.L.RuledLog in given (last_on l.same (history l.ruled es) k p)

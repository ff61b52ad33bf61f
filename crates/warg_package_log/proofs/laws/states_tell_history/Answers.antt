use Rattle.warg_package_log.proofs.HistoryLaws.{stands-tells, run-tells}
use Rattle.warg_package_log.proofs.laws.states_tell_history.Goals as goal

pub returns-clause-stands : goal.returns-clause-stands
returns-clause-stands c = λ s es h. stands-tells s es h

pub returns-clause-run : goal.returns-clause-run
returns-clause-run c = λ b strings answer h. run-tells b strings answer h

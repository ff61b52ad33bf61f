use Rattle.std.proofs.Common.{take}
use Rattle.std.specs.List.{AllByRecursion}
use Rattle.warg_log_records.specs.OperatorEntries.{entry_data}
use Rattle.warg_log_records.specs.WellFormed.{IsWellFormedEntry, IsWellFormedOperatorOwnEntry}
use Rattle.warg_log_records.proofs.laws.whole.operator_records_are_whole.Given as goal

abbrev pub invariant-loop-entry : goal.invariant-loop-entry
invariant-loop-entry l = AllByRecursion (λ e. IsWellFormedEntry IsWellFormedOperatorOwnEntry (entry_data e)) (take l.entry-index l.entry-items)

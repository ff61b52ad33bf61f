use Rattle.std.proofs.Common.{take}
use Rattle.std.specs.List.{AllByRecursion}
use Rattle.warg_log_records.specs.PackageEntries.{entry_data}
use Rattle.warg_log_records.specs.WellFormed.{IsReadable, IsWellFormedEntry, IsWellFormedPackageOwnEntry}
use Rattle.warg_log_records.proofs.laws.whole.package_records_are_whole.Given as goal

abbrev pub invariant-loop-entry : goal.invariant-loop-entry
invariant-loop-entry l = AllByRecursion (λ e. IsReadable (entry_data e) → IsWellFormedEntry IsWellFormedPackageOwnEntry (entry_data e)) (take l.entry-index l.entry-items)

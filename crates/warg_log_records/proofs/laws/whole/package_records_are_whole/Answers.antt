use Rattle.std.proofs.Common.{subst, ◌∙◌}
use Rattle.std.specs.List.{AllByRecursion}
use Rattle.std.proofs.lemmas.List.{take_all}
use Rattle.warg_log_records.specs.PackageEntries.{entry_data}
use Rattle.warg_log_records.specs.WellFormed.{IsReadable, IsWellFormedEntry, IsWellFormedPackageOwnEntry}
use Rattle.warg_log_records.proofs.Wholes.{all-next, all-seen}
use Rattle.warg_log_records.proofs.laws.whole.package_records_are_whole.Goals as goal
use Rattle.warg_log_records.specs.declared.package.model.PackageEntry.{PackageEntry}

abbrev IsGood : PackageEntry → Type 0
IsGood e = IsReadable (entry_data e) → IsWellFormedEntry IsWellFormedPackageOwnEntry (entry_data e)

pub loop-entry-preserved : goal.loop-entry-preserved
loop-entry-preserved c = all-next IsGood c.deref-entry-items.result.now c.loop-entry.entry-index c.entry-item.result c.loop-entry-test.true c.entry-item.is c.loop-entry.invariant c.package_entry_is_whole.ensures

pub returns : goal.returns
returns c = λ readable. record {
  prev = c.link_is_whole.ensures;
  time = c.time_is_whole.ensures;
  entries = all-seen entry_data IsReadable (IsWellFormedEntry IsWellFormedPackageOwnEntry) c.args.package_record.now.entries.items
      (subst (AllByRecursion IsGood) (take_all c.loop-entry.entry-index c.deref-entry-items.result.now c.loop-entry-test.false ∙ c.deref-entry-items.ensures.value) c.loop-entry.invariant) readable;
}

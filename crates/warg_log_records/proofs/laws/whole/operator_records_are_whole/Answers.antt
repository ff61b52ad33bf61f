use Rattle.std.proofs.Common.{subst, ◌∙◌}
use Rattle.std.specs.List.{AllByRecursion}
use Rattle.std.proofs.lemmas.List.{take_all}
use Rattle.warg_log_records.specs.OperatorEntries.{entry_data}
use Rattle.warg_log_records.specs.WellFormed.{IsWellFormedEntry, IsWellFormedOperatorOwnEntry}
use Rattle.warg_log_records.proofs.Wholes.{all-next, all-map}
use Rattle.warg_log_records.proofs.laws.whole.operator_records_are_whole.Goals as goal
use Rattle.warg_log_records.specs.declared.operator.model.OperatorEntry.{OperatorEntry}

abbrev IsGood : OperatorEntry → Type 0
IsGood e = IsWellFormedEntry IsWellFormedOperatorOwnEntry (entry_data e)

pub loop-entry-preserved : goal.loop-entry-preserved
loop-entry-preserved c = all-next IsGood c.deref-entry-items.result.now c.loop-entry.entry-index c.entry-item.result c.loop-entry-test.true c.entry-item.is c.loop-entry.invariant c.operator_entry_is_whole.ensures

pub returns : goal.returns
returns c = record {
  prev = c.link_is_whole.ensures;
  time = c.time_is_whole.ensures;
  entries = all-map entry_data (IsWellFormedEntry IsWellFormedOperatorOwnEntry) c.args.operator_record.now.entries.items
      (subst (AllByRecursion IsGood) (take_all c.loop-entry.entry-index c.deref-entry-items.result.now c.loop-entry-test.false ∙ c.deref-entry-items.ensures.value) c.loop-entry.invariant);
}

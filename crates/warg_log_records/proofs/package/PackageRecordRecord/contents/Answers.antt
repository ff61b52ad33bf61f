use Rattle.warg_log_records.specs.PackageEntries.{content_of, entry_data}
use Rattle.warg_log_records.proofs.Views.{filter_map-through}
use Rattle.warg_log_records.proofs.package.PackageRecordRecord.contents.Goals as goal

pub returns : goal.returns
returns c = rw (← filter_map-through content_of entry_data c.args.self.now.entries.items) (rw c.as_slice.ensures.value at c.mentions.ensures)

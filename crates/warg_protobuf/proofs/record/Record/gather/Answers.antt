use Rattle.warg_protobuf.specs.MessageDrafts.{record_kept}
use Rattle.warg_protobuf.specs.Record.{record_view}
use Rattle.warg_protobuf.proofs.Finishing.{record_gathered}
use Rattle.warg_protobuf.proofs.record.Record.gather.Goals as goal

pub returns : goal.returns
returns g c =
    let s = g.S.EntrySink in
    record_gathered s.with_entry s.no_entries s.table s.entry_from _ c.laws.ensures c.args.bytes.now
    (record_kept s.sink_data c.in_ok-draft.draft) (record_view s.sink_data c.in_ok-finish.field-0) c.in_ok-draft.ensures.given c.in_ok-finish.ensures

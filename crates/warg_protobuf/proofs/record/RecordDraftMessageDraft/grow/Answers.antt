use Rattle.std.proofs.Common.{ap}
use Rattle.std.proofs.lemmas.Result.{err_from_is_err_and}
use Rattle.warg_protobuf.specs.MessageDrafts.{record_kept, record_with}
use Rattle.warg_protobuf.specs.Values.{message_of}
use Rattle.warg_protobuf.specs.Views.{payload_view, field_view}
use Rattle.warg_protobuf.proofs.Finishing.{entry_fails}
use Rattle.warg_protobuf.proofs.record.RecordDraftMessageDraft.grow.Goals as goal

pub returns-in_err-take-in-Bytes-3-clause-given : goal.returns-in_err-take-in-Bytes-3-clause-given
returns-in_err-take-in-Bytes-3-clause-given g c =
    let s = g.S.EntrySink in
    let f = field_view c.args.field in
    let p = err_from_is_err_and c.from_residual-in_err-take-in-Bytes-3.result c.from_residual-in_err-take-in-Bytes-3.ensures.1 in
    rw (p.1, p.2) (entry_fails s.table s.entry_from _ c.laws.ensures (s.with_entry (s.sink_data c.args.self.now.entries)) c.in-Bytes-3.bytes.now (record_with s.with_entry s.table s.entry_from (record_kept s.sink_data c.args.self.now) f)
    c.in_err-take-in-Bytes-3.field-0.0 f.number f.payload c.if-field-eq4.true (ap payload_view c.in-Bytes-3.is) c.in_err-take-in-Bytes-3.ensures)

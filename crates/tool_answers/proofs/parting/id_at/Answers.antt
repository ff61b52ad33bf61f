use Rattle.std.proofs.Common.{◌<◌, length, ap, sym, ◌∙◌}
use Rattle.warg_replay.proofs.AuditedLogLemmas.HeadLemmas.{content_at}
use Rattle.tool_answers.proofs.PartingLemmas.{length-contents}
use Rattle.tool_answers.proofs.parting.id_at.Goals as goal

pub bounds-records-place : goal.bounds-records-place
bounds-records-place g c = rw length-contents at c.requires

pub returns : goal.returns
returns g c =
    let low : c.args.place < length c.args.records.now = rw length-contents at c.requires in
    c.record_id.ensures ∙ ap g.L.Validator.kind.id (sym (content_at c.args.records.now _ _ low c.index-records-place.is))

use Rattle.std.proofs.Common.{map, string_bytes}
use Rattle.warg_audit.specs.Replies.{printed_of}
use Rattle.warg_audit.proofs.IdAnswers.{answered_by}
use Rattle.warg_audit.proofs.program.audit.Goals as goal

pub returns-in-Ok-clause-answered : goal.returns-in-Ok-clause-answered
returns-in-Ok-clause-answered g c =
    answered_by (map string_bytes c.args.words.now) _ _ _ _ (printed_of c.make_reply-reply.result) c.status.result c.make_reply-reply.ensures.reply c.status.ensures
    (rw (c.as_bytes.ensures.value, c.text.ensures) at c.in-Ok.ensures.bytes)

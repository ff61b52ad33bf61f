use Rattle.std.proofs.Common.{sym, refl, map, string_bytes}
use Rattle.warg_audit.proofs.IdAnswers.{usage_reply, long_reply, lines_reply}
use Rattle.warg_audit.proofs.program.make_reply.Goals as goal

pub returns-in_default-clause-reply : goal.returns-in_default-clause-reply
returns-in_default-clause-reply g c =
    usage_reply (map string_bytes c.args.words.now) _ _ (g.R.Read.remaining c.args.input.now.reader) (sym c.in_default.ensures) c.fixed.ensures

pub returns-in-Ok-command_reply-clause-reply : goal.returns-in-Ok-command_reply-clause-reply
returns-in-Ok-command_reply-clause-reply g c =
    lines_reply (map string_bytes c.args.words.now) _ _ (g.R.Read.remaining c.args.input.now.reader) c.in-Some.command c.in-Ok.bytes.items (sym c.in-Some.ensures) c.in-Ok.ensures.ok c.in-Ok.ensures.short c.in-Ok-command_reply.ensures

pub returns-in-Err-TooLong-clause-reply : goal.returns-in-Err-TooLong-clause-reply
returns-in-Err-TooLong-clause-reply g c =
    long_reply (map string_bytes c.args.words.now) _ _ (g.R.Read.remaining c.args.input.now.reader) c.in-Some.command (sym c.in-Some.ensures)
    (c.in-Err-TooLong.ensures.long (rw c.in-Err-TooLong.field-0-is refl)) c.fixed-in-Err-TooLong.ensures

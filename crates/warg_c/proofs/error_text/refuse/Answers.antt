use Rattle.std.proofs.Common.{Some, subst}
use Rattle.warg_envelope.specs.ErrorTexts.{error_text}
use Rattle.warg_replay.specs.Messages.{cause_text}
use Rattle.warg_c.specs.Texts.{IsErrorText, IsNameOrLine}
use Rattle.warg_c.proofs.error_text.refuse.Goals as goal

pub returns-clause-text : goal.returns-clause-text
returns-clause-text g c = λ _.
    subst (λ name. IsErrorText (IsNameOrLine name (cause_text (λ e. Some (error_text e)) g.L.Error.Display.output c.args.cause.now)) c.tell_text.new.used c.tell_text.new.text) c.name.ensures c.tell_text.ensures.text

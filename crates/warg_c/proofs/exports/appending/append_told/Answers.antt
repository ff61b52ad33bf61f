use Rattle.std.proofs.Common.{subst}
use Rattle.std.specs.Prelude.{IfErr}
use Rattle.warg_c.specs.AppendErrors.{append_refuses}
use Rattle.warg_c.proofs.Answers.{errors-if}
use Rattle.warg_c.proofs.exports.appending.append_told.Goals as goal

pub returns-in-Ok-clause-err : goal.returns-in-Ok-clause-err
returns-in-Ok-clause-err c =
    errors-if c.args.held.now c.args.verdict.now.belongs c.args.verdict.now.asked.now c.args.verdict.now.question.now c.args.envelope.now c.append_held.new.used c.append_held.new.text c.in-Ok.answer c.in-Ok.ensures.ok.0 c.in-Ok.ensures.ok.1 c.append_held.result
    (subst (λ held. IfErr c.append_held.result (append_refuses held c.in-Ok.answer c.args.envelope.now c.append_held.new.used c.append_held.new.text)) c.take_pending-kept.ensures c.append_held.ensures.err)

use Rattle.std.proofs.lemmas.Result.{IfOk-weaker}
use Rattle.warg_audit.specs.Files.Answers.{output_data}
use Rattle.weoldrin.proofs.words.wrong_answer.Goals as goal

pub returns : goal.returns
returns c =
    IfOk-weaker c.render.result _ _ (λ answer is. (output_data c.fault-answer.result, c.fault-answer.ensures.printed, is))
    (rw (c.asks_for_json.ensures, c.named_command.ensures) at c.render.ensures)

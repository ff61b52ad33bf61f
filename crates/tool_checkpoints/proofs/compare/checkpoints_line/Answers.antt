use Rattle.std.proofs.lemmas.Result.{IfOk-weaker}
use Rattle.warg_audit.specs.Files.Answers.{output_data}
use Rattle.tool_checkpoints.proofs.ViewLemmas.{compared}
use Rattle.tool_checkpoints.proofs.compare.checkpoints_line.Goals as goal

pub returns : goal.returns
returns c =
    let case = c.compare_checkpoints-comparison.ensures in
    IfOk-weaker c.checkpoint_line.result _ _
    (λ answer. compared c.args.old.now c.args.new.now c.args.proof.now c.compare_checkpoints-comparison.result (output_data answer) case.same case.fork
    case.goes_back case.goes_on case.not_shown)
    c.checkpoint_line.ensures

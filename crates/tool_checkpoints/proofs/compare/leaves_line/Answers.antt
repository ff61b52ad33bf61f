use Rattle.std.proofs.Common.{refl}
use Rattle.std.proofs.lemmas.Result.{IfOk-weaker}
use Rattle.warg_audit.specs.Files.Answers.{output_data}
use Rattle.tool_checkpoints.proofs.ViewLemmas.{leaves_compared}
use Rattle.tool_checkpoints.proofs.compare.leaves_line.Goals as goal

pub returns : goal.returns
returns c =
    let case = c.compare_leaves.ensures in
    IfOk-weaker c.leaf_line.result _ _
    (λ answer. leaves_compared c.args.place c.args.old.now c.args.new.now _ _ c.compare_leaves.result (output_data answer)
    (refl, refl, refl) (refl, refl, refl) case.same case.fork case.not_shown)
    c.leaf_line.ensures

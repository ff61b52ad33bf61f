use Rattle.std.proofs.Common.{refl}
use Rattle.std.proofs.lemmas.Result.{IfOk-weaker}
use Rattle.warg_audit.specs.Files.Answers.{output_data}
use Rattle.tool_checkpoints.proofs.TwiceLemmas.{heads_compared}
use Rattle.tool_checkpoints.proofs.contradictions.heads_line.Goals as goal

pub returns : goal.returns
returns c =
    let case = c.compare_heads.ensures in
    IfOk-weaker c.head_line.result _ _
    (λ answer. heads_compared c.args.map_root.now c.args.log_id.now c.args.one.now c.args.other.now _ _ (refl, refl) (refl, refl)
    c.compare_heads.result (output_data answer) case.same case.two case.one_and_none case.not_shown)
    c.head_line.ensures

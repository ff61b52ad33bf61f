use Rattle.std.proofs.Common.{refl}
use Rattle.std.proofs.lemmas.Result.{IfOk-weaker}
use Rattle.warg_audit.specs.Files.Answers.{output_data}
use Rattle.tool_checkpoints.proofs.TwiceLemmas.{beginnings_compared}
use Rattle.tool_checkpoints.proofs.contradictions.beginnings_line.Goals as goal

pub returns : goal.returns
returns c =
    let case = c.compare_beginnings.ensures in
    IfOk-weaker c.beginning_line.result _ _
    (λ answer. beginnings_compared c.args.new.now c.args.one.now c.args.other.now _ _ (refl, refl) (refl, refl)
    c.compare_beginnings.result (output_data answer) case.same case.fork case.collision case.two_lengths case.not_shown)
    c.beginning_line.ensures

use Rattle.std.proofs.Common.{ap, ◌∙◌}
use Rattle.std.proofs.lemmas.Result.{IfOk-weaker}
use Rattle.warg_audit.specs.Printouts.{refused_line}
use Rattle.warg_audit.proofs.identify.fault_reply.Goals as goal

pub returns : goal.returns
returns c =
    IfOk-weaker c.refused_reply.result _ _ (λ reply is. is ∙ ap (refused_line 0) c.name.ensures) c.refused_reply.ensures

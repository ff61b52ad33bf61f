use Rattle.std.proofs.Common.{◌∙◌}
use Rattle.std.proofs.lemmas.Result.{IfOk-weaker}
use Rattle.tool_questions.proofs.permissions.asked_permissions.Goals as goal

pub returns : goal.returns
returns g c =
    IfOk-weaker c.with_fault.result _ _
    (λ told is. record { key = c.in_ok-asked.asked.key_id; asked = c.in_ok-asked.ensures; is = is ∙ c.in_ok-answer.ensures })
    c.with_fault.ensures

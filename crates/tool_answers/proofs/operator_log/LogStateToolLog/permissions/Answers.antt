use Rattle.std.proofs.Common.{◌∙◌}
use Rattle.std.proofs.lemmas.Result.{IfOk-weaker}
use Rattle.tool_answers.proofs.operator_log.LogStateToolLog.permissions.Goals as goal

pub returns : goal.returns
returns c =
    IfOk-weaker c.to_vec.result _ _ (λ permissions is. is (λ x y same. same) ∙ c.all.ensures) c.to_vec.ensures.items_if_clones_equal

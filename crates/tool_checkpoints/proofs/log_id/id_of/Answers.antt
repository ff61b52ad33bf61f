use Rattle.std.proofs.Common.{refl}
use Rattle.std.proofs.lemmas.Result.{IfErr-weaker, IfOk-weaker}
use Rattle.warg_registry.specs.KebabNames.{IsPackageText}
use Rattle.warg_registry.specs.LogIds.{operator_log_message, package_log_message}
use Rattle.tool_checkpoints.proofs.WordLemmas.{unsaid_for}
use Rattle.tool_checkpoints.proofs.log_id.id_of.Goals as goal

pub returns-in-Package-clause-ok : goal.returns-in-Package-clause-ok
returns-in-Package-clause-ok c =
    let name = c.in-Package.name.now in
    rw c.in-Package.is
    (IfOk-weaker c.package_log_id.result _ _ (λ id it. (package_log_message name, (it.0, refl), it.1)) c.package_log_id.ensures.ok)

pub returns-in-Package-clause-err : goal.returns-in-Package-clause-err
returns-in-Package-clause-err c =
    let name = c.in-Package.name.now in
    rw c.in-Package.is
    (IfErr-weaker c.package_log_id.result _ _ (λ end h. unsaid_for _ (IsPackageText name → ⊥) end h (λ never message it. never it.0))
    c.package_log_id.ensures.err)

pub returns-in-Operator-clause-ok : goal.returns-in-Operator-clause-ok
returns-in-Operator-clause-ok c = rw c.in-Operator.is (operator_log_message, refl, c.operator_log_id.ensures)

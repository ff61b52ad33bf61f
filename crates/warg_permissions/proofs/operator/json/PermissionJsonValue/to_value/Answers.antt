use Rattle.warg_permissions.specs.OperatorPermissions.{permission_in, permission_in-permission_text, permission_text}
use Rattle.warg_permissions.proofs.JsonLemmas.{permission_back}
use Rattle.warg_permissions.proofs.operator.json.PermissionJsonValue.to_value.Goals as goal

pub returns-clause-back : goal.returns-clause-back
returns-clause-back c = λ _. permission_back permission_text permission_in c.args.self.now c.text_value.result (permission_in-permission_text c.args.self.now) (rw (← c.as_str.ensures) c.text_value.ensures)

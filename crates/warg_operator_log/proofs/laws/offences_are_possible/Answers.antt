use Rattle.warg_permissions.specs.OperatorPermissions.{same_permission}
use Rattle.warg_log.proofs.PossibleLaws.{record-possible}
use Rattle.warg_operator_log.specs.Namespaces.{rules}
use Rattle.warg_operator_log.proofs.laws.offences_are_possible.Goals as goal

pub returns : goal.returns
returns c = record-possible rules same_permission

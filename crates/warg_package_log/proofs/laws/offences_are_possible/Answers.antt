use Rattle.warg_permissions.specs.PackagePermissions.{same_permission}
use Rattle.warg_log.proofs.PossibleLaws.{record-possible}
use Rattle.warg_package_log.specs.Releases.{rules}
use Rattle.warg_package_log.proofs.laws.offences_are_possible.Goals as goal

pub returns : goal.returns
returns c = record-possible rules same_permission

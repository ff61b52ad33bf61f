use Rattle.warg_permissions.specs.PackagePermissions.{same_permission}
use Rattle.warg_log_records.specs.PackageReading.{package_record_of}
use Rattle.warg_log.proofs.FormLaws.{accepted-read, accepted-form}
use Rattle.warg_package_log.specs.ListedReleases.{listed_releases}
use Rattle.warg_package_log.specs.Releases.{rules}
use Rattle.warg_package_log.specs.StateLaws.{state_laws}
use Rattle.warg_package_log.proofs.laws.form.Goals as goal

pub returns-clause-records : goal.returns-clause-records
returns-clause-records c = λ b es h. accepted-read rules same_permission package_record_of listed_releases b state_laws es h

pub returns-clause-form : goal.returns-clause-form
returns-clause-form c = λ b es some h. accepted-form rules same_permission package_record_of listed_releases b state_laws es some h

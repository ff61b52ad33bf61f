use Rattle.std.proofs.Common.{refl}
use Rattle.warg_permissions.specs.PackagePermissions.{same_permission}
use Rattle.warg_log_records.specs.PackageReading.{package_record_of}
use Rattle.warg_log.proofs.AdmissionLaws.{accepted-admitted}
use Rattle.warg_package_log.specs.ListedReleases.{listed_releases}
use Rattle.warg_package_log.specs.Releases.{rules}
use Rattle.warg_package_log.specs.StateLaws.{state_laws}
use Rattle.warg_package_log.proofs.laws.no_key_brings_itself_in.Goals as goal

pub returns : goal.returns
returns c = λ b es h ones. accepted-admitted rules same_permission package_record_of listed_releases b refl state_laws es h ones

use Rattle.warg_permissions.specs.PackagePermissions.{same_permission}
use Rattle.warg_log_records.specs.PackageEntries.{record_data}
use Rattle.warg_log_records.specs.PackageReading.{package_record_of}
use Rattle.warg_log.proofs.AskingLaws.{asks-honest, refused-honest}
use Rattle.warg_package_log.specs.Releases.{rules}
use Rattle.warg_package_log.specs.State.{view_of, offence_of}
use Rattle.warg_package_log.specs.ListedReleases.{listed_releases}
use Rattle.warg_package_log.proofs.externally_verified.LogStateExternallyVerified.ask.Goals as goal

pub returns-clause-asks : goal.returns-clause-asks
returns-clause-asks c = λ honest. asks-honest rules same_permission package_record_of listed_releases (view_of c.args.self.now) c.args.envelope.now.envelope (record_data c.args.envelope.now.contents) honest c.ask.result c.ask.ensures.asks

pub returns-clause-refused : goal.returns-clause-refused
returns-clause-refused c = λ honest. refused-honest rules same_permission package_record_of listed_releases (view_of c.args.self.now) c.args.envelope.now.envelope (record_data c.args.envelope.now.contents) honest c.ask.result offence_of c.ask.ensures.refused

use Rattle.std.proofs.Common.{refl}
use Rattle.warg_log_records.specs.PackageReading.{package_record_of}
use Rattle.warg_log_records.specs.PackageWriting.{package_content_of}
use Rattle.warg_log_records.proofs.WrittenRecords.{package_back}
use Rattle.warg_log_records.proofs.package.PackageEntryLogEntry.laws.Goals as goal

pub returns-clause-says : goal.returns-clause-says
unfolding package_record_of
returns-clause-says c = λ content. refl

pub returns-clause-computes : goal.returns-clause-computes
returns-clause-computes c = c.record_reading_computes.ensures.of_package

pub returns-clause-spelled : goal.returns-clause-spelled
unfolding package_content_of
returns-clause-spelled c = λ s. refl

pub returns-clause-back : goal.returns-clause-back
returns-clause-back c = package_back

use Rattle.warg_protobuf.proofs.RecordLaws.{package_entry_agrees}
use Rattle.warg_protobuf.proofs.WrittenRecords.{package_entry_again}
use Rattle.warg_protobuf.proofs.package_entry.PackageEntryCodec.laws.Goals as goal

pub returns-clause-agrees : goal.returns-clause-agrees
returns-clause-agrees c = package_entry_agrees

pub returns-clause-written : goal.returns-clause-written
returns-clause-written c = package_entry_again

use Rattle.warg_protobuf.proofs.EntryLaws.{release_agrees}
use Rattle.warg_protobuf.proofs.WrittenMessages.{release_again}
use Rattle.warg_protobuf.proofs.release.PackageReleaseCodec.laws.Goals as goal

pub returns-clause-agrees : goal.returns-clause-agrees
returns-clause-agrees c = release_agrees

pub returns-clause-written : goal.returns-clause-written
returns-clause-written c = release_again

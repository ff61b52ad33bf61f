use Rattle.warg_protobuf.proofs.EntryLaws.{yank_agrees}
use Rattle.warg_protobuf.proofs.WrittenMessages.{yank_again}
use Rattle.warg_protobuf.proofs.yank.PackageYankCodec.laws.Goals as goal

pub returns-clause-agrees : goal.returns-clause-agrees
returns-clause-agrees c = yank_agrees

pub returns-clause-written : goal.returns-clause-written
returns-clause-written c = yank_again

use Rattle.warg_protobuf.proofs.EntryLaws.{init_agrees}
use Rattle.warg_protobuf.proofs.WrittenMessages.{init_again}
use Rattle.warg_protobuf.proofs.init.InitCodec.laws.Goals as goal

pub returns-clause-agrees : goal.returns-clause-agrees
returns-clause-agrees c = init_agrees

pub returns-clause-written : goal.returns-clause-written
returns-clause-written c = init_again

use Rattle.warg_protobuf.proofs.RecordLaws.{timestamp_agrees}
use Rattle.warg_protobuf.proofs.WrittenMessages.{timestamp_again}
use Rattle.warg_protobuf.proofs.timestamp.TimestampPairCodec.laws.Goals as goal

pub returns-clause-agrees : goal.returns-clause-agrees
returns-clause-agrees c = timestamp_agrees

pub returns-clause-written : goal.returns-clause-written
returns-clause-written c = timestamp_again

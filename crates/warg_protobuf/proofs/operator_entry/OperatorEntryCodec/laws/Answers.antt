use Rattle.warg_protobuf.proofs.RecordLaws.{operator_entry_agrees}
use Rattle.warg_protobuf.proofs.WrittenRecords.{operator_entry_again}
use Rattle.warg_protobuf.proofs.operator_entry.OperatorEntryCodec.laws.Goals as goal

pub returns-clause-agrees : goal.returns-clause-agrees
returns-clause-agrees c = operator_entry_agrees

pub returns-clause-written : goal.returns-clause-written
returns-clause-written c = operator_entry_again

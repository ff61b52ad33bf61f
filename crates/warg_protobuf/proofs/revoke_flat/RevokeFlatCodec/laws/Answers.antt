use Rattle.warg_protobuf.proofs.EntryLaws.{revoke_flat_agrees}
use Rattle.warg_protobuf.proofs.WrittenMessages.{revoke_flat_again}
use Rattle.warg_protobuf.proofs.revoke_flat.RevokeFlatCodec.laws.Goals as goal

pub returns-clause-agrees : goal.returns-clause-agrees
returns-clause-agrees c = revoke_flat_agrees

pub returns-clause-written : goal.returns-clause-written
returns-clause-written c = revoke_flat_again

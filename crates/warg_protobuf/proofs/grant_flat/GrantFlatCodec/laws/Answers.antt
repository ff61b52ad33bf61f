use Rattle.warg_protobuf.proofs.EntryLaws.{grant_flat_agrees}
use Rattle.warg_protobuf.proofs.WrittenMessages.{grant_flat_again}
use Rattle.warg_protobuf.proofs.grant_flat.GrantFlatCodec.laws.Goals as goal

pub returns-clause-agrees : goal.returns-clause-agrees
returns-clause-agrees c = grant_flat_agrees

pub returns-clause-written : goal.returns-clause-written
returns-clause-written c = grant_flat_again

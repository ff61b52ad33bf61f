use Rattle.warg_protobuf.proofs.EnvelopeLaws.{envelope_agrees}
use Rattle.warg_protobuf.proofs.WrittenMessages.{envelope_again}
use Rattle.warg_protobuf.proofs.envelope.EnvelopeCodec.laws.Goals as goal

pub returns-clause-agrees : goal.returns-clause-agrees
returns-clause-agrees c = envelope_agrees

pub returns-clause-written : goal.returns-clause-written
returns-clause-written c = envelope_again

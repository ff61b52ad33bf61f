use Rattle.warg_protobuf.proofs.EntryLaws.{define_namespace_agrees}
use Rattle.warg_protobuf.proofs.WrittenMessages.{define_namespace_again}
use Rattle.warg_protobuf.proofs.define_namespace.OperatorDefineNamespaceCodec.laws.Goals as goal

pub returns-clause-agrees : goal.returns-clause-agrees
returns-clause-agrees c = define_namespace_agrees

pub returns-clause-written : goal.returns-clause-written
returns-clause-written c = define_namespace_again

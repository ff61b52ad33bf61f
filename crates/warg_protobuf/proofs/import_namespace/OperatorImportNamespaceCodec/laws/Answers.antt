use Rattle.warg_protobuf.proofs.EntryLaws.{import_namespace_agrees}
use Rattle.warg_protobuf.proofs.WrittenMessages.{import_namespace_again}
use Rattle.warg_protobuf.proofs.import_namespace.OperatorImportNamespaceCodec.laws.Goals as goal

pub returns-clause-agrees : goal.returns-clause-agrees
returns-clause-agrees c = import_namespace_agrees

pub returns-clause-written : goal.returns-clause-written
returns-clause-written c = import_namespace_again

use Rattle.warg_protobuf.specs.MessageDrafts.{two_texts_kept, no_texts, two_texts_with, import_namespace_made}
use Rattle.warg_protobuf.specs.ImportNamespace.{import_namespace_table, import_namespace_from, import_namespace_view}
use Rattle.warg_protobuf.proofs.Finishing.{finished_as, may_take, import_namespace_finishes}
use Rattle.warg_protobuf.proofs.import_namespace.OperatorImportNamespaceCodec.read.Goals as goal

pub returns-clause-given : goal.returns-clause-given
returns-clause-given c = finished_as import_namespace_table import_namespace_from two_texts_with no_texts import_namespace_made import_namespace_finishes c.args.bytes.now (two_texts_kept c.in_ok-draft.draft) (import_namespace_view c.in_ok-finish.field-0) c.in_ok-draft.ensures.given c.in_ok-finish.ensures

pub returns-in_err-finish-clause-memory : goal.returns-in_err-finish-clause-memory
returns-in_err-finish-clause-memory c = may_take import_namespace_table import_namespace_from two_texts_with no_texts import_namespace_made import_namespace_finishes c.args.bytes.now _ (two_texts_kept c.in_ok-draft.draft) c.in_ok-draft.ensures.given

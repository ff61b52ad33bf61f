use Rattle.warg_protobuf.specs.MessageDrafts.{one_text_kept, no_text, one_text_with, define_namespace_made}
use Rattle.warg_protobuf.specs.DefineNamespace.{define_namespace_table, define_namespace_from, define_namespace_view}
use Rattle.warg_protobuf.proofs.Finishing.{finished_as, may_take, define_namespace_finishes}
use Rattle.warg_protobuf.proofs.define_namespace.OperatorDefineNamespaceCodec.read.Goals as goal

pub returns-clause-given : goal.returns-clause-given
returns-clause-given c = finished_as define_namespace_table define_namespace_from one_text_with no_text define_namespace_made define_namespace_finishes c.args.bytes.now (one_text_kept c.in_ok-draft.draft) (define_namespace_view c.in_ok-finish.field-0) c.in_ok-draft.ensures.given c.in_ok-finish.ensures

pub returns-in_err-finish-clause-memory : goal.returns-in_err-finish-clause-memory
returns-in_err-finish-clause-memory c = may_take define_namespace_table define_namespace_from one_text_with no_text define_namespace_made define_namespace_finishes c.args.bytes.now _ (one_text_kept c.in_ok-draft.draft) c.in_ok-draft.ensures.given

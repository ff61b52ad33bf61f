use Rattle.warg_protobuf.specs.DefineNamespace.{define_namespace_table}
use Rattle.warg_protobuf.specs.ImportNamespace.{import_namespace_table}
use Rattle.warg_protobuf.specs.MessageDrafts.{one_text_kept, one_text_with, no_text, two_texts_kept, two_texts_with, no_texts, Absent, member_kept, member_with, operator_entry_made}
use Rattle.warg_protobuf.specs.OperatorEntry.{operator_entry_table, operator_entry_from, operator_entry_view}
use Rattle.warg_protobuf.proofs.Entries.{operator_entry_finishes}
use Rattle.warg_protobuf.proofs.Finishing.{finished_as}
use Rattle.warg_protobuf.proofs.operator_entry.OperatorEntryCodec.read.Goals as goal

pub returns-clause-given : goal.returns-clause-given
returns-clause-given c =
    finished_as operator_entry_table operator_entry_from (member_with define_namespace_table one_text_with no_text import_namespace_table two_texts_with no_texts) Absent operator_entry_made operator_entry_finishes
    c.args.bytes.now (member_kept one_text_kept two_texts_kept c.in_ok-draft.draft.member) (operator_entry_view c.in_ok-finish.field-0) c.in_ok-draft.ensures.given c.in_ok-finish.ensures

use Rattle.warg_protobuf.specs.Release.{release_table}
use Rattle.warg_protobuf.specs.Yank.{yank_table}
use Rattle.warg_protobuf.specs.MessageDrafts.{one_text_kept, one_text_with, no_text, two_texts_kept, two_texts_with, no_texts, Absent, member_kept, member_with, package_entry_made}
use Rattle.warg_protobuf.specs.PackageEntry.{package_entry_table, package_entry_from, package_entry_view}
use Rattle.warg_protobuf.proofs.Entries.{package_entry_finishes}
use Rattle.warg_protobuf.proofs.Finishing.{finished_as}
use Rattle.warg_protobuf.proofs.package_entry.PackageEntryCodec.read.Goals as goal

pub returns-clause-given : goal.returns-clause-given
returns-clause-given c =
    finished_as package_entry_table package_entry_from (member_with release_table two_texts_with no_texts yank_table one_text_with no_text) Absent package_entry_made package_entry_finishes
    c.args.bytes.now (member_kept two_texts_kept one_text_kept c.in_ok-draft.draft.member) (package_entry_view c.in_ok-finish.field-0) c.in_ok-draft.ensures.given c.in_ok-finish.ensures

use Rattle.warg_protobuf.specs.MessageDrafts.{one_text_kept, no_text, one_text_with, yank_made}
use Rattle.warg_protobuf.specs.Yank.{yank_table, yank_from, yank_view}
use Rattle.warg_protobuf.proofs.Finishing.{finished_as, may_take, yank_finishes}
use Rattle.warg_protobuf.proofs.yank.PackageYankCodec.read.Goals as goal

pub returns-clause-given : goal.returns-clause-given
returns-clause-given c = finished_as yank_table yank_from one_text_with no_text yank_made yank_finishes c.args.bytes.now (one_text_kept c.in_ok-draft.draft) (yank_view c.in_ok-finish.field-0) c.in_ok-draft.ensures.given c.in_ok-finish.ensures

pub returns-in_err-finish-clause-memory : goal.returns-in_err-finish-clause-memory
returns-in_err-finish-clause-memory c = may_take yank_table yank_from one_text_with no_text yank_made yank_finishes c.args.bytes.now _ (one_text_kept c.in_ok-draft.draft) c.in_ok-draft.ensures.given

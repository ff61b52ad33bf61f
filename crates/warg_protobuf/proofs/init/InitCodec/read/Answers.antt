use Rattle.warg_protobuf.specs.MessageDrafts.{two_texts_kept, no_texts, two_texts_with, init_made}
use Rattle.warg_protobuf.specs.Init.{init_table, init_from, init_view}
use Rattle.warg_protobuf.proofs.Finishing.{finished_as, may_take, init_finishes}
use Rattle.warg_protobuf.proofs.init.InitCodec.read.Goals as goal

pub returns-clause-given : goal.returns-clause-given
returns-clause-given c = finished_as init_table init_from two_texts_with no_texts init_made init_finishes c.args.bytes.now (two_texts_kept c.in_ok-draft.draft) (init_view c.in_ok-finish.field-0) c.in_ok-draft.ensures.given c.in_ok-finish.ensures

pub returns-in_err-finish-clause-memory : goal.returns-in_err-finish-clause-memory
returns-in_err-finish-clause-memory c = may_take init_table init_from two_texts_with no_texts init_made init_finishes c.args.bytes.now _ (two_texts_kept c.in_ok-draft.draft) c.in_ok-draft.ensures.given

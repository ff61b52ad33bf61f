use Rattle.warg_protobuf.specs.MessageDrafts.{two_texts_kept, no_texts, two_texts_with, release_made}
use Rattle.warg_protobuf.specs.Release.{release_table, release_from, release_view}
use Rattle.warg_protobuf.proofs.Finishing.{finished_as, may_take, release_finishes}
use Rattle.warg_protobuf.proofs.release.PackageReleaseCodec.read.Goals as goal

pub returns-clause-given : goal.returns-clause-given
returns-clause-given c = finished_as release_table release_from two_texts_with no_texts release_made release_finishes c.args.bytes.now (two_texts_kept c.in_ok-draft.draft) (release_view c.in_ok-finish.field-0) c.in_ok-draft.ensures.given c.in_ok-finish.ensures

pub returns-in_err-finish-clause-memory : goal.returns-in_err-finish-clause-memory
returns-in_err-finish-clause-memory c = may_take release_table release_from two_texts_with no_texts release_made release_finishes c.args.bytes.now _ (two_texts_kept c.in_ok-draft.draft) c.in_ok-draft.ensures.given

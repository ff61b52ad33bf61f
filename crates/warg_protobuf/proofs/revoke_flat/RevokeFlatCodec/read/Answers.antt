use Rattle.warg_protobuf.specs.MessageDrafts.{text_and_numbers_kept, nothing_kept, text_and_numbers_with, revoke_flat_made}
use Rattle.warg_protobuf.specs.RevokeFlat.{revoke_flat_table, revoke_flat_from, revoke_flat_view}
use Rattle.warg_protobuf.proofs.Finishing.{finished_as, revoke_flat_finishes}
use Rattle.warg_protobuf.proofs.revoke_flat.RevokeFlatCodec.read.Goals as goal

pub returns-clause-given : goal.returns-clause-given
returns-clause-given c = finished_as revoke_flat_table revoke_flat_from text_and_numbers_with nothing_kept revoke_flat_made revoke_flat_finishes c.args.bytes.now (text_and_numbers_kept c.in_ok-draft.draft) (revoke_flat_view c.in_ok-finish.field-0) c.in_ok-draft.ensures.given c.in_ok-finish.ensures

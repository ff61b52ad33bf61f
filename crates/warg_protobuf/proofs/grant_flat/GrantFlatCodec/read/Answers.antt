use Rattle.warg_protobuf.specs.MessageDrafts.{text_and_numbers_kept, nothing_kept, text_and_numbers_with, grant_flat_made}
use Rattle.warg_protobuf.specs.GrantFlat.{grant_flat_table, grant_flat_from, grant_flat_view}
use Rattle.warg_protobuf.proofs.Finishing.{finished_as, grant_flat_finishes}
use Rattle.warg_protobuf.proofs.grant_flat.GrantFlatCodec.read.Goals as goal

pub returns-clause-given : goal.returns-clause-given
returns-clause-given c = finished_as grant_flat_table grant_flat_from text_and_numbers_with nothing_kept grant_flat_made grant_flat_finishes c.args.bytes.now (text_and_numbers_kept c.in_ok-draft.draft) (grant_flat_view c.in_ok-finish.field-0) c.in_ok-draft.ensures.given c.in_ok-finish.ensures

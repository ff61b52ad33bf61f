use Rattle.warg_protobuf.specs.MessageDrafts.{timestamp_kept, no_time, timestamp_with, time_made}
use Rattle.warg_protobuf.specs.Timestamp.{timestamp_table, timestamp_from, timestamp_view}
use Rattle.warg_protobuf.proofs.Finishing.{finished_as, timestamp_finishes}
use Rattle.warg_protobuf.proofs.timestamp.TimestampPairCodec.read.Goals as goal

pub returns-clause-given : goal.returns-clause-given
returns-clause-given c = finished_as timestamp_table timestamp_from timestamp_with no_time time_made timestamp_finishes c.args.bytes.now (timestamp_kept c.in_ok-draft.draft) (timestamp_view c.finish.result) c.in_ok-draft.ensures.given c.finish.ensures

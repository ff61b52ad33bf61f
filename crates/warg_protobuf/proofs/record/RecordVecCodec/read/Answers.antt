use Rattle.std.proofs.Common.{subst}
use Rattle.warg_protobuf.specs.Record.{record_table, record_from, record_view}
use Rattle.warg_protobuf.specs.Values.{message_of}
use Rattle.warg_protobuf.specs.Views.{ReturnsOrNoMemory}
use Rattle.warg_protobuf.proofs.Finishing.{listed_as_it_is}
use Rattle.warg_protobuf.proofs.record.RecordVecCodec.read.Goals as goal

pub returns-clause-given : goal.returns-clause-given
returns-clause-given g c =
    let e = g.E.Codec in
    rw (← listed_as_it_is (message_of (record_table e.table) (record_from e.table e.value) c.args.bytes.now)) c.gather.ensures

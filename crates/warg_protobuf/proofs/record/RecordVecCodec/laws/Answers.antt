use Rattle.warg_protobuf.specs.Writing.{bytes_of}
use Rattle.warg_protobuf.proofs.RecordLaws.{record_agrees}
use Rattle.warg_protobuf.proofs.WrittenRecords.{record_again}
use Rattle.warg_protobuf.proofs.record.RecordVecCodec.laws.Goals as goal

pub returns-clause-agrees : goal.returns-clause-agrees
returns-clause-agrees g c = let e = g.E.Codec in record_agrees g.E.Codec.table e.value e.Says c.laws.ensures.agrees

pub returns-clause-written : goal.returns-clause-written
returns-clause-written g c = let e = g.E.Codec in record_again g.E.Codec.table e.Says (λ v. bytes_of (e.written_fields v)) e.is_sound c.laws.ensures.written

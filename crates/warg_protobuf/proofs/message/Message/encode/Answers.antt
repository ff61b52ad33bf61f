use Rattle.warg_protobuf.specs.Writing.{bytes_of}
use Rattle.warg_protobuf.proofs.WrittenRecords.{read_again_at}
use Rattle.warg_protobuf.proofs.message.Message.encode.Goals as goal

pub returns-clause-read_again : goal.returns-clause-read_again
returns-clause-read_again g c = let m = g.Self.Codec in read_again_at g.Self.Codec.table m.Says (λ v. bytes_of (m.written_fields v)) m.is_sound c.laws.ensures.written (m.view c.args.self.now) c.write_message.result c.write_message.ensures.spelled c.write_message.ensures.sound

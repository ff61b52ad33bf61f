use Rattle.warg_protobuf.proofs.Decoding.{decode_found, decode_fault, decode_only, decode_only_fault}
use Rattle.warg_protobuf.proofs.message.Message.decode.Goals as goal

pub returns-clause-found : goal.returns-clause-found
returns-clause-found g c = let m = g.Self.Codec in decode_found g.Self.Codec.table m.value m.Says c.laws.ensures.agrees c.args.bytes.now m.view c.read.result c.read.ensures.given

pub returns-clause-fault : goal.returns-clause-fault
returns-clause-fault g c = let m = g.Self.Codec in decode_fault g.Self.Codec.table m.value m.Says c.laws.ensures.agrees c.args.bytes.now m.view c.read.result c.read.ensures.given

pub returns-clause-only : goal.returns-clause-only
returns-clause-only g c = let m = g.Self.Codec in decode_only g.Self.Codec.table m.value m.Says c.laws.ensures.agrees c.args.bytes.now m.view c.read.result c.read.ensures.given

pub returns-clause-only_fault : goal.returns-clause-only_fault
returns-clause-only_fault g c = let m = g.Self.Codec in decode_only_fault g.Self.Codec.table m.value m.Says c.laws.ensures.agrees c.args.bytes.now m.view c.read.result c.read.ensures.given

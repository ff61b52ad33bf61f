use Rattle.std.proofs.Common.{arith}
use Rattle.warg_protobuf.proofs.Texts.{text_is, text_not}
use Rattle.warg_protobuf.proofs.text.read_text.Goals as goal

pub returns-in-Ok : goal.returns-in-Ok
returns-in-Ok c = grind (arith, text_is c.args.bytes.now c.in-Ok.ensures.cases.1)

pub returns-in-Err : goal.returns-in-Err
returns-in-Err c = text_not c.args.bytes.now c.in-Err.ensures.cases.0

use Rattle.warg_protobuf.proofs.Decoding.{one_answer}
use Rattle.warg_protobuf.proofs.laws.one_answer.Goals as goal

pub returns : goal.returns
returns g c = λ bytes. let m = g.M.Codec in one_answer m.table m.value m.Says c.laws.ensures.agrees bytes

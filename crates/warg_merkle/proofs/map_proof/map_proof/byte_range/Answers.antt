use Rattle.std.proofs.Common.{arith}
use Rattle.warg_merkle.proofs.map_proof.map_proof.byte_range.Goals as goal

pub returns : goal.returns
returns c = λ i. let fits = c.type_inv.bytes i in search (arith, fits)

use Rattle.std.proofs.Common.{arith}
use Rattle.std.proofs.lemmas.Int.{ints}
use Rattle.warg_crypto.proofs.time.ranges.signed_range.Goals as goal

pub returns : goal.returns
returns c = λ n e. omega (arith, ints, c.ranges.number.sfits)

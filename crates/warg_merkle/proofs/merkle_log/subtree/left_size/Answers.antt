use Rattle.std.proofs.Common.{arith}
use Rattle.std.proofs.lemmas.Nat.{one_shl}
use Rattle.warg_merkle.proofs.Sizes.{one_left}
use Rattle.warg_merkle.proofs.merkle_log.subtree.left_size.Goals as goal

pub returns-clause-value : goal.returns-clause-value
returns-clause-value c =
    let shifted = one_shl c.ilog2.result 64 (omega arith) in
    one_left c.args.size _ c.ilog2.result shifted (omega arith) (omega arith) c.requires

use Rattle.std.proofs.Common.{suc, arith}
use Rattle.std.proofs.Math.Nat.{pow-succ'}
use Rattle.warg_merkle.proofs.Sizes.{one_left}
use Rattle.warg_merkle.proofs.tree.left_size.Goals as goal

pub loop-left-preserved : goal.loop-left-preserved
loop-left-preserved c =
    let is = c.loop-left.invariant.1 in
    let twice = pow-succ' 2 c.loop-left.invariant.0 in
    (suc c.loop-left.invariant.0, omega arith, omega arith)

pub returns-clause-value : goal.returns-clause-value
returns-clause-value c = one_left c.args.size c.loop-left.left c.loop-left.invariant.0 c.loop-left.invariant.1 c.loop-left.invariant.2 (omega arith) c.requires

use Rattle.std.proofs.Common.{◌≡◌, ◌+◌, ◌-◌, suc, sym, arith}
use Rattle.warg_merkle.proofs.MapProofLemmas.Steps.{count_top, count_out, count_in}
use Rattle.warg_merkle.proofs.map_proof.decode.others_count.Goals as goal
use Rattle.warg_merkle.proofs.map_proof.decode.others_count.Goals.{then-not-is_right, else-not-is_right}

pub loop-height-preserved : goal.loop-height-preserved
loop-height-preserved c =
    let (high, few, counted) = c.loop-height.invariant in
    let next : 256 - c.loop-height.height ≡ suc (256 - (c.loop-height.height + 1)) = omega arith in
    elim c.if-not-is_right.branch [
      | then-not-is_right w ↦
          let step = count_in (256 - c.loop-height.height) (256 - (c.loop-height.height + 1)) c.loop-height.height (c.loop-height.height + 1) c.args.left_out.now next (omega arith) (sym w.if-not-is_right.ensures) in
          rw w.count-is (omega arith, omega arith, omega (arith, step, counted))
      | else-not-is_right w ↦
          let step = count_out (256 - c.loop-height.height) (256 - (c.loop-height.height + 1)) c.loop-height.height (c.loop-height.height + 1) c.args.left_out.now next (omega arith) (sym w.if-not-is_right.ensures) in
          rw w.count-is (omega arith, omega arith, omega (arith, step, counted))
    ]

pub returns-clause-count : goal.returns-clause-count
returns-clause-count c =
    let (high, few, counted) = c.loop-height.invariant in
    omega (arith, counted, count_top (256 - c.loop-height.height) c.loop-height.height c.args.left_out.now (omega arith))

use Rattle.std.proofs.Common.{rules, arith, ◌≡◌, length, drop, refl, length-drop}
use Rattle.warg_transparency.specs.MapLeaves.{leaf_read}
use Rattle.warg_transparency.proofs.decode.leaf_read.Goals as goal

pub returns-then-bytes-lt24 : goal.returns-then-bytes-lt24
unfolding leaf_read
returns-then-bytes-lt24 c =
    let none : length (drop 24 c.args.bytes.now) ≡ 0 = omega (arith, length-drop 24 c.args.bytes.now) in
    rw none refl

pub returns : goal.returns
unfolding leaf_read
returns c = search rules

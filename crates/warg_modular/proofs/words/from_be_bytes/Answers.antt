use Rattle.std.proofs.Common.{◌^◌, ◌∙◌}
use Rattle.warg_modular.proofs.Bytes.{more_bytes, no_bytes}
use Rattle.warg_modular.proofs.words.from_be_bytes.Goals as goal

pub loop-b-init : goal.loop-b-init
loop-b-init c = no_bytes c.args.bytes.now

pub loop-b-preserved : goal.loop-b-preserved
loop-b-preserved c = c.shifted_in-a.ensures ∙ more_bytes c.args.bytes.now c.loop-b.b-index (2 ^ 256) _ c.loop-b-test.true c.loop-b.invariant

use Rattle.std.specs.Prelude.{[]}
use Rattle.warg_registry.proofs.checkpoint.TimestampedCheckpointEncode.encode.Goals as goal

pub returns : goal.returns
returns c = c.in_ok-visit_bv.ensures.ok [] c.new-bytes.ensures.items

use Rattle.std.specs.Prelude.{[]}
use Rattle.warg_c.proofs.exports.log_names.leaf_bytes.Goals as goal

pub returns-in-Ok-clause-ok : goal.returns-in-Ok-clause-ok
returns-in-Ok-clause-ok c = record { leaf = c.in_ok-leaf.leaf; texts = c.in_ok-leaf.ensures.ok; encoding = c.in-Ok.ensures.ok [] c.new-bytes.ensures.items }

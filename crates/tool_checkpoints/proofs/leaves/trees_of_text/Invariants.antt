use Rattle.std.proofs.Common.{length}
use Rattle.warg_audit.specs.Files.Lines.{lines_of}
use Rattle.tool_checkpoints.proofs.RegistryLemmas.{IsReadTo}
use Rattle.tool_checkpoints.proofs.leaves.trees_of_text.Given as goal

-- the trees are those of the lines so far
abbrev pub invariant-loop-rest : goal.invariant-loop-rest
invariant-loop-rest l = IsReadTo (lines_of l.text) (lines_of l.rest) l.trees.log l.trees.heads.items

abbrev pub decreases-loop-rest : goal.decreases-loop-rest
decreases-loop-rest l = length l.rest

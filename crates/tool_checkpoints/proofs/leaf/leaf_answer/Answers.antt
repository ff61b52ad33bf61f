use Rattle.tool_checkpoints.specs.LeafTexts.{IsLeafLine}
use Rattle.tool_checkpoints.specs.Proofs.{IsLeafOf}
use Rattle.tool_checkpoints.specs.Words.{by_value}
use Rattle.tool_checkpoints.proofs.WordLemmas.{words_unsaid}
use Rattle.tool_checkpoints.proofs.leaf.leaf_answer.Goals as goal

pub returns-in_ok-leaf_line-in-Ok : goal.returns-in_ok-leaf_line-in-Ok
returns-in_ok-leaf_line-in-Ok c = by_value c.in-Ok.leaf c.in-Ok.ensures.ok c.in_ok-leaf_line-in-Ok.ensures

pub returns-in-Err : goal.returns-in-Err
returns-in-Err c = words_unsaid (IsLeafOf c.args.ids.now.log_id.now c.args.ids.now.record_id.now) IsLeafLine c.in-Err.error c.in-Err.ensures.err

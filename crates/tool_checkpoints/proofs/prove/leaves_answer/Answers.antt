use Rattle.tool_checkpoints.specs.ProofTexts.{of_leaves}
use Rattle.tool_checkpoints.proofs.ProofTextLemmas.{leaves_unread}
use Rattle.tool_checkpoints.proofs.prove.leaves_answer.Goals as goal

pub returns-in_ok-trees_answer-in-Ok : goal.returns-in_ok-trees_answer-in-Ok
returns-in_ok-trees_answer-in-Ok c =
    let it = c.in-Ok.ensures.ok in of_leaves it.leaves it.said (c.in_ok-trees_answer-in-Ok.ensures it.leaves it.trees)

pub returns-in-Err : goal.returns-in-Err
returns-in-Err c = leaves_unread _ _ c.in-Err.error c.in-Err.ensures.err

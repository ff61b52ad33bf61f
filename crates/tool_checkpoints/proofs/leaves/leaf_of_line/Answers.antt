use Rattle.std.proofs.Common.{◌∙◌}
use Rattle.tool_checkpoints.proofs.RegistryLemmas.{line_read, line_unread}
use Rattle.tool_checkpoints.proofs.leaves.leaf_of_line.Goals as goal

pub returns-in-Ok : goal.returns-in-Ok
returns-in-Ok c =
    c.leaf_of_text.ensures
    ∙ line_read c.args.line.now c.without_return.result.now c.in-Ok.text.now c.without_return.ensures c.in-Ok.ensures.cases.0 c.in-Ok.ensures.cases.1

pub returns-in-Err : goal.returns-in-Err
returns-in-Err c = line_unread c.args.line.now c.without_return.result.now c.without_return.ensures c.in-Err.ensures.cases.0

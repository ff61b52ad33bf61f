use Rattle.tool_laws.proofs.TaskLemmas.{done_clean}
use Rattle.tool_laws.proofs.laws.tasks_are_printed.Goals as goal

pub returns : goal.returns
returns c = done_clean

use Rattle.tool_laws.proofs.InvocationLemmas.{invocation_clean}
use Rattle.tool_laws.proofs.laws.answers_are_printed.Goals as goal

pub returns : goal.returns
returns c = invocation_clean

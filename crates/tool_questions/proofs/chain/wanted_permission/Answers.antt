use Rattle.tool_answers.proofs.WordLemmas.{nothing_said}
use Rattle.tool_questions.proofs.chain.wanted_permission.Goals as goal

pub returns-in-None-clause-err : goal.returns-in-None-clause-err
returns-in-None-clause-err g c =
    nothing_said _ c.unusable.result (rw c.in-None.is at c.in_ok-permission.ensures.none) c.unusable.ensures

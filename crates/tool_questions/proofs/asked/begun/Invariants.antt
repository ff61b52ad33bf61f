use Rattle.std.proofs.Common.{◌≡◌, filter, take}
use Rattle.tool_answers.specs.IdWords.{begins_as_said}
use Rattle.tool_questions.proofs.asked.begun.Given as goal

-- those of the ids so far
abbrev pub invariant-loop-id : goal.invariant-loop-id
invariant-loop-id l = l.begun.items ≡ filter (begins_as_said l.word) (take l.id-index l.ids)

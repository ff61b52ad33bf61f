use Rattle.tool_questions.proofs.resume.state_error.Goals as goal

pub returns-in_default-clause-memory : goal.returns-in_default-clause-memory
returns-in_default-clause-memory c = λ is. absurd (c.in_default.not-OutOfMemory is)

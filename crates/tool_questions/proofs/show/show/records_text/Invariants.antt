use Rattle.std.proofs.Common.{string_bytes, take}
use Rattle.tool_questions.specs.Show.ShownLogs.{AreEnvelopeLines}
use Rattle.tool_questions.proofs.show.show.records_text.Given as goal

-- a line for each record so far
abbrev pub invariant-loop-place : goal.invariant-loop-place
invariant-loop-place g l = AreEnvelopeLines g.L.Validator.kind.id g.L.ToolLog.words_of (take l.place l.records) (string_bytes l.text)

-- The words of contracts over logs of any kind: each takes a kind's log and how its records are read, and finds the rest
-- in their types.
-- how a record is read, and what bytes are as an envelope
pub use Rattle.warg_envelope.specs.Readings.{Reading}
pub use Rattle.warg_envelope.specs.ReadingWords.{envelope_in, ContentsMatchBytes, IsOpening}
-- a kind's rules with what its states stand for and which offence an error names
pub use Rattle.warg_replay.specs.Logs.{LogOf}
-- what `run`, `run_from`, `ask` and `append` answer
pub use Rattle.warg_replay.specs.LogWords.{named_cause, why_not, IsWhyNot, IsWhyNever, IsStep, IsRunSeen, IsRun, IsRunFrom, IsRunAfter, IsRunAgreeing, HasNoOffence, HasNoOffenceAfter, IsFirstOffence, IsFirstOffenceAfter, IsFoundBy, first_offence_from, Asks, IsAnswered, IsNext, envelopes_said}

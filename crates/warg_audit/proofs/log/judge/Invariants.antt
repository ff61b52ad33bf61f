use Rattle.std.proofs.Common.{◌+◌, ◌≤◌, length}
use Rattle.warg_envelope.specs.Envelopes.{envelope_of}
use Rattle.warg_audit.specs.Files.Lines.{lines_of}
use Rattle.warg_audit.proofs.JudgeLemmas.{IsJudgedTo}
use Rattle.warg_audit.proofs.log.judge.Given as goal

-- the lines so far spell inputs that may all come, and the state stands for them
abbrev pub invariant-loop-rest : goal.invariant-loop-rest
invariant-loop-rest g l = record {
  judged : IsJudgedTo g.L.Validator.kind (g.V.Verifier.belongs l.verifier) (envelope_of g.L.Record.Record.read) (lines_of l.fn.text.items) l.count
      (lines_of l.rest) (g.L.Validator.view l.state);
  short : l.count + length l.rest ≤ length l.fn.text.items;
}

abbrev pub decreases-loop-rest : goal.decreases-loop-rest
decreases-loop-rest g l = length l.rest

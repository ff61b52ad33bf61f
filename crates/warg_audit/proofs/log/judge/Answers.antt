use Rattle.std.proofs.Common.{◌≡◌, true, [], ◌∷◌, ◌++◌, ◌+◌, Ok, ap, arith}
use Rattle.std.proofs.lemmas.Grind.{common_steps}
use Rattle.warg_envelope.specs.Envelopes.{envelope_of, envelope_fault_of}
use Rattle.warg_replay.specs.OutcomeRuns.{cause_named_by}
use Rattle.warg_audit.specs.Files.Lines.{lines_of, inputs_from}
use Rattle.warg_audit.proofs.JudgeLemmas.{none_judged, one_judged, still_refused}
use Rattle.warg_audit.proofs.FilesLemmas.InputLemmas.{one_read, rest_read, some_inputs}
use Rattle.warg_audit.proofs.log.judge.Goals as goal

pub loop-rest-init : goal.loop-rest-init
loop-rest-init g c = record {
  judged = rw c.as_slice-rest.ensures.value (none_judged g.L.Validator.kind (g.V.Verifier.belongs c.args.verifier.now) (envelope_of g.L.Record.Record.read)
      (lines_of c.args.text.items) (g.L.Validator.view c.in_ok-state.state) c.in_ok-state.ensures
      (g.met.L.Validator.laws.by_history (g.V.Verifier.belongs c.args.verifier.now) [] tt));
  short = rw c.as_slice-rest.ensures.value (omega arith);
}

pub loop-rest-preserved : goal.loop-rest-preserved
loop-rest-preserved g c =
    let good : c.in_ok-decode_line.field-0 ≡ true = grind (arith, common_steps) in
    let so_far = rw c.cut_line.ensures.line at c.loop-rest.invariant.judged in
    let input = c.decode_line.new.buffer.items in record {
      judged = one_judged g.L.Validator.kind (g.V.Verifier.belongs c.args.verifier.now) (envelope_of g.L.Record.Record.read) g.L.Validator.view
          (cause_named_by (envelope_fault_of g.L.Record.Record.fault_of) g.L.Validator.offence_of) (lines_of c.args.text.items)
          c.loop-rest.count c.cut_line.result.0.now (lines_of c.cut_line.result.1.now)
          (g.L.Validator.view c.loop-rest.state) so_far input (c.in_ok-decode_line.ensures.bytes (ap Ok good))
          c.in-Ok-run_next.next (rw c.as_slice-bytes.ensures.value at (c.in-Ok-run_next.ensures so_far.inputs so_far.many so_far.lawful so_far.stands));
      short = omega arith;
    }

pub returns-in-Err-run_next-clause-ok : goal.returns-in-Err-run_next-clause-ok
returns-in-Err-run_next-clause-ok g c =
    let good : c.in_ok-decode_line.field-0 ≡ true = grind (arith, common_steps) in
    let judged = c.loop-rest.invariant.judged in
    let lines = lines_of c.args.text.items in
    let rest = lines_of c.cut_line.result.1.now in
    let input = c.decode_line.new.buffer.items in
    let read = one_read 0 lines c.loop-rest.count c.cut_line.result.0.now rest judged.inputs
    (rw c.cut_line.ensures.line at judged.whole) input (c.in_ok-decode_line.ensures.bytes (ap Ok good)) in
    let more = some_inputs (inputs_from (c.loop-rest.count + 1) rest) c.in_ok-test_lines-in-Err-run_next.ensures.ok in
    let inputs = judged.inputs ++ input ∷ [] in (
      inputs ++ more.0,
      (
        rest_read 0 lines (c.loop-rest.count + 1) rest inputs more.0 read more.1,
        rw c.in_ok-run_error-in-Err-run_next.ensures.ok (still_refused g.L.Validator.kind (g.V.Verifier.belongs c.args.verifier.now) (envelope_of g.L.Record.Record.read) g.L.Validator.kind.view_of
            inputs more.0 (cause_named_by (envelope_fault_of g.L.Record.Record.fault_of) g.L.Validator.offence_of)
            c.in-Err-run_next.error (rw c.as_slice-bytes.ensures.value at (c.in-Err-run_next.ensures judged.inputs judged.many judged.lawful judged.stands))),
        tt,
      ),
    )

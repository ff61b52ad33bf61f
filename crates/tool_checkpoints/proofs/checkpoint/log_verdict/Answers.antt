use Rattle.std.proofs.Common.{refl, subst}
use Rattle.warg_audit.specs.Files.Answers.{output_data}
use Rattle.warg_audit.specs.Files.RecordLines.{record_lines}
use Rattle.warg_audit.specs.LogKinds.{operator_log}
use Rattle.warg_protocol.specs.Operator.{View}
use Rattle.tool_answers.proofs.LoadingLemmas.{error_prints}
use Rattle.tool_answers.specs.Verdicts.{lawful}
use Rattle.tool_checkpoints.specs.CheckpointAnswers.{signature_text}
use Rattle.std.specs.Prelude.{◌≡◌}
use Rattle.tool_checkpoints.proofs.checkpoint.log_verdict.Goals as goal

pub returns-in_ok-state_verdict-in-Ok : goal.returns-in_ok-state_verdict-in-Ok
returns-in_ok-state_verdict-in-Ok g c =
    let it = c.in-Ok.ensures.lawful operator_log.fault_name operator_log.offence_name operator_log.shown
    (record { faults = λ e. refl; offences = λ e. refl; lines = λ s. refl }) in
    let P : View → Type 0 = λ log.
    output_data c.in_ok-state_verdict-in-Ok.field-0 ≡ signature_text c.args.schemes (g.V.Verifier.belongs c.args.verifier.now) log c.args.signed.now in
    lawful it.0 it.1.0 (subst P it.1.1 c.in_ok-state_verdict-in-Ok.ensures)

pub returns-in-Err : goal.returns-in-Err
returns-in-Err g c =
    error_prints operator_log (g.V.Verifier.belongs c.args.verifier.now) _ (record_lines c.args.input.bytes.items) c.in-Err.error
    (c.in-Err.ensures.err operator_log.fault_name operator_log.offence_name operator_log.shown
    (record { faults = λ e. refl; offences = λ e. refl; lines = λ s. refl }))

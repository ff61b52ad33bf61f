use Rattle.std.proofs.Common.{refl, subst}
use Rattle.warg_audit.specs.LogKinds.{package_log}
use Rattle.warg_protocol.specs.Package.{View}
use Rattle.tool_answers.proofs.LoadingLemmas.{error_prints}
use Rattle.warg_audit.specs.Files.Answers.{output_data}
use Rattle.tool_changes.specs.Latest.{IsLatestText}
use Rattle.warg_audit.specs.Files.RecordLines.{record_lines}
use Rattle.tool_answers.specs.Verdicts.{lawful}
use Rattle.tool_changes.proofs.latest.latest_answer.Goals as goal

pub returns-in_ok-latest_of-in-Ok : goal.returns-in_ok-latest_of-in-Ok
returns-in_ok-latest_of-in-Ok g c =
    let it = c.in-Ok.ensures.lawful package_log.fault_name package_log.offence_name package_log.shown
    (record { faults = λ e. refl; offences = λ e. refl; lines = λ s. refl }) in
    let P : View → Type 0 = λ view. IsLatestText view.state.own_state c.args.wanted.now.comparators.items (output_data c.in_ok-latest_of-in-Ok.field-0) in
    lawful it.0 it.1.0 (subst P it.1.1 c.in_ok-latest_of-in-Ok.ensures)

pub returns-in-Err : goal.returns-in-Err
returns-in-Err g c =
    error_prints package_log (g.V.Verifier.belongs c.args.verifier.now) _ (record_lines c.args.input.bytes.items) c.in-Err.error
    (c.in-Err.ensures.err package_log.fault_name package_log.offence_name package_log.shown
    (record { faults = λ e. refl; offences = λ e. refl; lines = λ s. refl }))

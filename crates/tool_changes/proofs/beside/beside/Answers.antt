use Rattle.std.proofs.Common.{Some}
use Rattle.warg_audit.specs.Files.RecordLines.{record_lines}
use Rattle.tool_answers.proofs.LoadingLemmas.{error_prints}
use Rattle.tool_changes.specs.Audits.{IsDemanded}
use Rattle.tool_changes.proofs.BesideLemmas.{audited_beside}
use Rattle.tool_changes.proofs.beside.beside.Goals as goal

pub returns-in-Ok : goal.returns-in-Ok
returns-in-Ok g c = λ fault_name offence_name shown reports.
    let it = c.in-Ok.ensures.lawful fault_name offence_name shown reports in
    audited_beside _ _ _ _ _ it.0 c.demanded_beside.result it.1.0
    (c.demanded_beside.ensures fault_name offence_name shown reports it.0 it.1.1 it.1.2)

pub returns-in-Err : goal.returns-in-Err
returns-in-Err g c = λ fault_name offence_name shown reports.
    let belongs = g.V.Verifier.belongs c.args.verifier.now in
    error_prints _ belongs (IsDemanded _ belongs c.args.demands.now (Some (record_lines c.args.older.bytes.items)))
    (record_lines c.args.input.bytes.items) c.in-Err.error (c.in-Err.ensures.err fault_name offence_name shown reports)

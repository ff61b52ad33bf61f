use Rattle.std.proofs.Common.{None}
use Rattle.warg_audit.specs.Files.RecordLines.{record_lines}
use Rattle.tool_answers.proofs.LoadingLemmas.{error_prints}
use Rattle.tool_changes.specs.Audits.{IsDemanded}
use Rattle.tool_changes.proofs.AuditLemmas.{demanded_answers}
use Rattle.tool_changes.proofs.audit.alone.Goals as goal

pub returns-in-Ok : goal.returns-in-Ok
returns-in-Ok g c = λ fault_name offence_name shown reports.
    let state = c.in-Ok.state in
    let it = c.in-Ok.ensures.lawful fault_name offence_name shown reports in
    demanded_answers _ (g.V.Verifier.belongs c.args.verifier.now) c.args.demands.now (record_lines c.args.input.bytes.items) it.0 it.1.0
    (g.L.Validator.view state) it.1.1 c.in-Ok.count it.1.2 (g.L.Report.lines_of state) (reports.lines state)
    c.demanded.result c.demanded.ensures

pub returns-in-Err : goal.returns-in-Err
returns-in-Err g c = λ fault_name offence_name shown reports.
    let belongs = g.V.Verifier.belongs c.args.verifier.now in
    error_prints _ belongs (IsDemanded _ belongs c.args.demands.now None) (record_lines c.args.input.bytes.items) c.in-Err.error
    (c.in-Err.ensures.err fault_name offence_name shown reports)

use Rattle.std.proofs.Common.{None}
use Rattle.warg_audit.specs.Files.RecordLines.{record_lines}
use Rattle.tool_answers.proofs.LoadingLemmas.{error_prints}
use Rattle.tool_changes.specs.Audits.{IsAudited, IsDemanded, records_alone}
use Rattle.tool_changes.proofs.FirstLineLemmas.{first_answers, error_begins}
use Rattle.tool_changes.proofs.audit.first_of_verdict.Goals as goal

pub returns-in-Ok : goal.returns-in-Ok
returns-in-Ok g c = λ fault_name offence_name shown reports.
    let it = c.in-Ok.ensures.lawful fault_name offence_name shown reports in
    first_answers _ (g.V.Verifier.belongs c.args.verifier.now) c.args.allows_empty (record_lines c.args.input.bytes.items) it.0 it.1.0
    (g.L.Validator.view c.in-Ok.state) it.1.1 c.in-Ok.count it.1.2 _ c.head_digest.ensures c.first_line.result c.first_line.ensures

pub returns-in-Err : goal.returns-in-Err
returns-in-Err g c = λ fault_name offence_name shown reports.
    let belongs = g.V.Verifier.belongs c.args.verifier.now in
    let ls = record_lines c.args.input.bytes.items in
    error_begins (IsAudited _ belongs (records_alone c.args.allows_empty) None ls) c.in-Err.error
    (error_prints _ belongs (IsDemanded _ belongs (records_alone c.args.allows_empty) None) ls c.in-Err.error
    (c.in-Err.ensures.err fault_name offence_name shown reports))

use Rattle.std.proofs.Common.{◌∙◌, ap, ℕ, List}
use Rattle.tool_changes.specs.MadeRecords.{signed_line, taken}
use Rattle.tool_changes.proofs.MadeLemmas.{run_error_printed}
use Rattle.tool_changes.proofs.making.signed_next.Goals as goal

pub returns-in_ok-signed_line-in-Ok : goal.returns-in_ok-signed_line-in-Ok
returns-in_ok-signed_line-in-Ok g c = λ fault_name offence_name shown reports.
    taken c.in-Ok.ensures.taken (c.in_ok-signed_line-in-Ok.ensures ∙ ap (λ (bytes : List ℕ). signed_line bytes) c.as_slice.ensures.value)

pub returns-in-Err : goal.returns-in-Err
returns-in-Err g c = λ fault_name offence_name shown reports.
    run_error_printed _ _ _ _ _ c.in-Err.error (c.in-Err.ensures.refused fault_name offence_name shown reports)

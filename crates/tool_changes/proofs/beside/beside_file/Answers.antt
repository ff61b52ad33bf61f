use Rattle.tool_changes.proofs.BesideLemmas.{older_answers, older_lacks, older_error}
use Rattle.tool_changes.proofs.beside.beside_file.Goals as goal

pub returns-then-lacks_records : goal.returns-then-lacks_records
returns-then-lacks_records g c = λ fault_name offence_name shown reports inputs news counted.
    let it = c.in-Ok.ensures.lawful fault_name offence_name shown reports in
    older_lacks _ _ c.args.demands.now _ it.0 inputs _ c.len.result _ it.1.0 it.1.1 c.len.ensures c.if-lacks_records.ensures c.in_ok-fixed-in-Ok.ensures

pub returns-else-lacks_records : goal.returns-else-lacks_records
returns-else-lacks_records g c = λ fault_name offence_name shown reports inputs news counted.
    let it = c.in-Ok.ensures.lawful fault_name offence_name shown reports in
    older_answers _ _ c.args.demands.now _ it.0 inputs _ c.len.result c.beside_older.result it.1.0 it.1.1 c.len.ensures c.if-lacks_records.ensures
    (c.beside_older.ensures fault_name offence_name shown reports it.0 inputs it.1.1 news counted)

pub returns-in-Err : goal.returns-in-Err
returns-in-Err g c = λ fault_name offence_name shown reports inputs news counted.
    older_error _ _ c.args.demands.now _ inputs c.in-Err.error (c.in-Err.ensures.err fault_name offence_name shown reports)

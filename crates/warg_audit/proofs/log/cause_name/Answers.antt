use Rattle.std.proofs.Common.{◌∙◌}
use Rattle.warg_envelope.specs.FaultNames.{record_fault_name}
use Rattle.warg_envelope.specs.Faults.{fault_of}
use Rattle.warg_audit.proofs.NameLemmas.{parse_named, offence_named}
use Rattle.warg_audit.proofs.log.cause_name.Goals as goal

pub returns-in-Parse : goal.returns-in-Parse
returns-in-Parse g c = λ fault_name offence_name shown reports.
    rw c.in-Parse.is (c.fault_name.ensures
    ∙ parse_named record_fault_name fault_name fault_of g.L.Record.Record.fault_of reports.faults offence_name c.in-Parse.error)

pub returns-in-Validation : goal.returns-in-Validation
returns-in-Validation g c = λ fault_name offence_name shown reports.
    rw c.in-Validation.is (c.error_name.ensures
    ∙ reports.offences c.in-Validation.error ∙ offence_named fault_name offence_name (g.L.Validator.offence_of c.in-Validation.error))

use Rattle.tool_changes.proofs.audit.audited.Goals as goal

pub returns-in-Some : goal.returns-in-Some
returns-in-Some g c = λ fault_name offence_name shown reports. rw c.in-Some.is (c.beside.ensures fault_name offence_name shown reports)

pub returns-in-None : goal.returns-in-None
returns-in-None g c = λ fault_name offence_name shown reports. rw c.in-None.is (c.alone.ensures fault_name offence_name shown reports)

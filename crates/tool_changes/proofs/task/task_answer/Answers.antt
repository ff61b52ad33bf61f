use Rattle.tool_changes.proofs.AppendLemmas.{append_leaves}
use Rattle.tool_changes.proofs.task.task_answer.Goals as goal

pub returns-in-Claims-clause-answered : goal.returns-in-Claims-clause-answered
returns-in-Claims-clause-answered g c = λ fault_name offence_name shown reports. rw c.in-Claims.is c.claims_of_file.ensures.answered

pub returns-in-Claims-clause-files : goal.returns-in-Claims-clause-files
returns-in-Claims-clause-files g c = λ fault_name offence_name shown reports. rw c.in-Claims.is c.claims_of_file.ensures.kept

pub returns-in-Make-clause-answered : goal.returns-in-Make-clause-answered
returns-in-Make-clause-answered g c = λ fault_name offence_name shown reports.
    rw c.in-Make.is (c.made_for_file.ensures.answered fault_name offence_name shown reports)

pub returns-in-Make-clause-files : goal.returns-in-Make-clause-files
returns-in-Make-clause-files g c = λ fault_name offence_name shown reports. rw c.in-Make.is c.made_for_file.ensures.kept

pub returns-in-Append-clause-answered : goal.returns-in-Append-clause-answered
returns-in-Append-clause-answered g c = λ fault_name offence_name shown reports.
    rw c.in-Append.is (c.append_answer.ensures.answered fault_name offence_name shown reports)

pub returns-in-Append-clause-files : goal.returns-in-Append-clause-files
returns-in-Append-clause-files g c = λ fault_name offence_name shown reports.
    rw c.in-Append.is (append_leaves _ _ _ c.append_answer.result
    (c.append_answer.ensures.answered fault_name offence_name shown reports) c.append_answer.ensures.kept)

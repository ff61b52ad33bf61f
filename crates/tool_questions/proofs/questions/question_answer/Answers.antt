use Rattle.tool_questions.proofs.questions.question_answer.Goals as goal

pub returns-in-State-clause-answered : goal.returns-in-State-clause-answered
returns-in-State-clause-answered g c = λ fault_name offence_name shown reports.
    rw c.in-State.is (c.state_of_file.ensures.answered fault_name offence_name shown reports)

pub returns-in-Resume-clause-answered : goal.returns-in-Resume-clause-answered
returns-in-Resume-clause-answered g c = λ fault_name offence_name shown reports.
    rw c.in-Resume.is (c.resumed_from_files.ensures.answered fault_name offence_name shown reports)

pub returns-in-Head-clause-answered : goal.returns-in-Head-clause-answered
returns-in-Head-clause-answered g c = λ fault_name offence_name shown reports.
    rw c.in-Head.is (c.head_of_file.ensures.answered fault_name offence_name shown reports)

pub returns-in-ResumedHead-clause-answered : goal.returns-in-ResumedHead-clause-answered
returns-in-ResumedHead-clause-answered g c = λ fault_name offence_name shown reports.
    rw c.in-ResumedHead.is (c.resumed_head_from_files.ensures.answered fault_name offence_name shown reports)

pub returns-in-Permissions-clause-answered : goal.returns-in-Permissions-clause-answered
returns-in-Permissions-clause-answered g c = λ fault_name offence_name shown reports.
    rw c.in-Permissions.is (c.permissions_of_file.ensures.answered fault_name offence_name shown reports)

pub returns-in-Chain-clause-answered : goal.returns-in-Chain-clause-answered
returns-in-Chain-clause-answered g c = λ fault_name offence_name shown reports.
    rw c.in-Chain.is (c.chain_of_word.ensures.answered fault_name offence_name shown reports)

pub returns-in-Compare-clause-answered : goal.returns-in-Compare-clause-answered
returns-in-Compare-clause-answered g c = λ fault_name offence_name shown reports.
    rw c.in-Compare.is (c.compared_files.ensures.answered fault_name offence_name shown reports)

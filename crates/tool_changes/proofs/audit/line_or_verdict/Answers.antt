use Rattle.tool_changes.proofs.audit.line_or_verdict.Goals as goal

pub returns-in-Some : goal.returns-in-Some
returns-in-Some g c = rw c.in-Some.is c.new.ensures

pub returns-in-None : goal.returns-in-None
returns-in-None g c = rw c.in-None.is c.accepted.ensures

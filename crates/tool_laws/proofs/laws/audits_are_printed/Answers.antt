use Rattle.tool_laws.proofs.AuditLemmas.{many_clean, one_clean}
use Rattle.tool_laws.proofs.laws.audits_are_printed.Goals as goal

pub returns-clause-one : goal.returns-clause-one
returns-clause-one c = one_clean

pub returns-clause-many : goal.returns-clause-many
returns-clause-many c = many_clean

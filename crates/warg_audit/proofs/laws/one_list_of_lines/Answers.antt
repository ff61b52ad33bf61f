use Rattle.warg_audit.proofs.FilesLemmas.LineLemmas.{lines_of-are, lines_of-only}
use Rattle.warg_audit.proofs.laws.one_list_of_lines.Goals as goal

pub returns-clause-some : goal.returns-clause-some
returns-clause-some c = lines_of-are

pub returns-clause-only : goal.returns-clause-only
returns-clause-only c = lines_of-only

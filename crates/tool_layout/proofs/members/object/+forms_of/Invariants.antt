use Rattle.std.proofs.Common.{length}
use Rattle.tool_layout.proofs.members.object.+forms_of.Given as goal

-- fewer rows are left
abbrev pub decreases-forms_of : goal.decreases-forms_of
decreases-forms_of l = length l.table.now

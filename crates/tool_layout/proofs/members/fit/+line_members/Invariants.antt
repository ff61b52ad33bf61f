use Rattle.std.proofs.Common.{length}
use Rattle.tool_layout.proofs.members.fit.+line_members.Given as goal

-- fewer parts are left
abbrev pub decreases-line_members : goal.decreases-line_members
decreases-line_members l = length l.forms.now

use Rattle.std.proofs.Common.{length}
use Rattle.tool_layout.proofs.members.fit.+members_by.Given as goal

-- fewer parts are left
abbrev pub decreases-members_by : goal.decreases-members_by
decreases-members_by l = length l.parts.now

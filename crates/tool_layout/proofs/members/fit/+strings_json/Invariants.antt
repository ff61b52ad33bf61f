use Rattle.std.proofs.Common.{length}
use Rattle.tool_layout.proofs.members.fit.+strings_json.Given as goal

-- less text is left
abbrev pub decreases-strings_json : goal.decreases-strings_json
decreases-strings_json l = length l.text.now

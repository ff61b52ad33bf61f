use Rattle.std.proofs.Common.{◌+◌, ◌*◌, ◌-◌, length}
use Rattle.json.specs.Json.{value}
use Rattle.serde_json.specs.View.{members_view}
use Rattle.warg_saved_states.specs.Asked.{texts}
use Rattle.warg_saved_states.proofs.AskedMembers.{AreAskedSoFar}
use Rattle.warg_saved_states.proofs.read.+read.Given as goal

abbrev pub decreases-read_value : goal.decreases-read_value
decreases-read_value l = 3 * l.depth

abbrev pub decreases-take_next : goal.decreases-take_next
decreases-take_next l = 3 * l.depth + 1

abbrev pub decreases-read_members : goal.decreases-read_members
decreases-read_members l = 3 * l.depth + 2

abbrev pub invariant-read_members-members : goal.invariant-read_members-members
invariant-read_members-members l = AreAskedSoFar (texts l.asked) (l.levels - 1) (value l.depth) l.initial.reader l.reader (members_view l.found.entries)

abbrev pub decreases-read_members-members : goal.decreases-read_members-members
decreases-read_members-members l = length l.reader

use Rattle.std.proofs.Common.{length}
use Rattle.std.specs.Option.{option_map}
use Rattle.json.specs.Json.{value}
use Rattle.warg_saved_states.proofs.NextMembers.{IsReadSoFar}
use Rattle.warg_saved_states.proofs.read_map.next_members.Given as goal

abbrev pub invariant-members : goal.invariant-members
invariant-members g l = IsReadSoFar g.K.SavedName.plain g.V.SavedValue.plain g.K.SavedName.name_of g.K.SavedName.key_named g.V.SavedValue.reads (value l.depth) l.initial.reader l.reader (option_map (λ s. s.now) l.last) l.map.entries

abbrev pub decreases-members : goal.decreases-members
decreases-members g l = length l.reader

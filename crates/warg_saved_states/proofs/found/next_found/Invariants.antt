use Rattle.std.proofs.Common.{length}
use Rattle.json.specs.Json.{value}
use Rattle.warg_saved_states.proofs.FoundMembers.{AreFoundSoFar}
use Rattle.warg_saved_states.proofs.found.next_found.Given as goal

abbrev pub invariant-members : goal.invariant-members
invariant-members g l = AreFoundSoFar (λ b. g.V.SavedValue.plain b.value) g.V.SavedValue.reads (value l.depth) l.initial.reader l.reader l.found.entries

abbrev pub decreases-members : goal.decreases-members
decreases-members g l = length l.reader

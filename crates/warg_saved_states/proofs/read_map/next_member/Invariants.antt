use Rattle.std.proofs.Common.{length}
use Rattle.json.specs.Json.{value}
use Rattle.warg_crypto.specs.Json.Pairs.{pairs_or_none, plain_pairs}
use Rattle.warg_saved_states.proofs.OneMember.{IsMemberSoFar}
use Rattle.warg_saved_states.proofs.read_map.next_member.Given as goal

abbrev pub invariant-members : goal.invariant-members
invariant-members g l = IsMemberSoFar (λ m. plain_pairs g.K.SavedName.plain g.V.SavedValue.plain m.entries) (pairs_or_none g.K.SavedName.key_named g.V.SavedValue.reads) l.name (value l.depth) l.initial.reader l.reader l.found

abbrev pub decreases-members : goal.decreases-members
decreases-members g l = length l.reader

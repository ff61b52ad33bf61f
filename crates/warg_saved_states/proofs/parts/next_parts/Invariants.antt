use Rattle.std.proofs.Common.{length}
use Rattle.json.specs.Json.{value}
use Rattle.serde_json.specs.View.{members_view}
use Rattle.warg_crypto.specs.Json.Pairs.{pairs_or_none, plain_pairs}
use Rattle.warg_saved_states.specs.Asked.{texts}
use Rattle.warg_saved_states.proofs.PartsRead.{ArePartsSoFar}
use Rattle.warg_saved_states.proofs.parts.next_parts.Given as goal

abbrev pub invariant-members : goal.invariant-members
invariant-members g l = ArePartsSoFar (λ m. plain_pairs g.J.SavedName.plain g.U.SavedValue.plain m.entries) (pairs_or_none g.J.SavedName.key_named g.U.SavedValue.reads) (λ m. plain_pairs g.K.SavedName.plain g.V.SavedValue.plain m.entries) (pairs_or_none g.K.SavedName.key_named g.V.SavedValue.reads) (λ m. plain_pairs g.L.SavedName.plain g.W.SavedValue.plain m.entries) (pairs_or_none g.L.SavedName.key_named g.W.SavedValue.reads)
    (texts l.asked) l.levels l.first l.second l.third (value l.depth) l.initial.reader l.reader (members_view l.found.entries) l.firsts l.seconds l.thirds

abbrev pub decreases-members : goal.decreases-members
decreases-members g l = length l.reader

use Rattle.serde_json.specs.Data.{Members}
use Rattle.warg_saved_states.specs.Found.{AreFound}
use Rattle.warg_saved_states.proofs.FoundMembers.{IsLeft}
use Rattle.warg_saved_states.proofs.found.map_of_found.Given as goal

abbrev pub invariant-entries : goal.invariant-entries
invariant-entries g l = (ms : Members) → AreFound (λ b. g.V.SavedValue.plain b.value) g.V.SavedValue.reads l.fn.found.entries ms
    → IsLeft g.K.SavedName.plain g.V.SavedValue.plain (λ b. b.value) g.K.SavedName.name_of g.K.SavedName.key_named g.V.SavedValue.reads l.name-iterator l.map.entries ms

use Rattle.serde_json.specs.View.{members_view}
use Rattle.warg_saved_states.proofs.Reading.{IsReading}
use Rattle.warg_saved_states.proofs.map.map_of.Given as goal

abbrev pub invariant-members : goal.invariant-members
invariant-members g l = IsReading g.K.SavedName.plain g.V.SavedValue.plain g.K.SavedName.name_of g.K.SavedName.key_named g.V.SavedValue.reads l.map.entries (members_view l.name-iterator) (members_view l.fn.object.entries)

use Rattle.warg_saved_states.proofs.MapsBack.{are_back}
use Rattle.warg_saved_states.proofs.map.map_value.Goals as goal

pub returns-clause-back : goal.returns-clause-back
returns-clause-back g c =
    are_back g.K.SavedName.plain g.V.SavedValue.plain g.K.SavedName.name_of g.K.SavedName.key_named g.V.SavedValue.writes g.V.SavedValue.reads
    g.K.SavedName.versions g.V.SavedValue.versions g.K.PartialEq.eq g.met.K.SavedName.read g.met.K.SavedName.same_key
    c.args.map.now.entries c.iter-key-items.ensures.unique (c.entries.invariant.back (rw c.in-None.ensures.steps.0 tt))

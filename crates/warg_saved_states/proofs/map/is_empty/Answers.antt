use Rattle.warg_saved_states.proofs.Optional.{empty_pairs}
use Rattle.warg_saved_states.proofs.map.is_empty.Goals as goal

pub returns : goal.returns
returns g c = empty_pairs g.K.SavedName.plain g.V.SavedValue.plain c.is_empty.result c.args.map.now.entries c.is_empty.ensures

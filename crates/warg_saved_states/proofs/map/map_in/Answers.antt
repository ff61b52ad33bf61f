use Rattle.warg_crypto.proofs.JsonLemmas.Pairs.{ascending}
use Rattle.warg_saved_states.proofs.map.map_in.Goals as goal

pub map_of-requires : goal.map_of-requires
map_of-requires g c = ascending c.args.object.now.entries c.len-len.ensures.ordered

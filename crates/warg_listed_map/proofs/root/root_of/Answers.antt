use Rattle.warg_listed_map.proofs.ListedMapLemmas.{by_ways}
use Rattle.warg_listed_map.proofs.root.root_of.Goals as goal

pub returns : goal.returns
returns c = λ m of. c.root_at.ensures m (by_ways c.args.entries.now m of)

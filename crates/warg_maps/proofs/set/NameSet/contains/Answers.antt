use mathlib.Core.Path.{ap, ◌∙◌}
use Rattle.std_collections.proofs.SetKeys.{contains_seen}
use Rattle.warg_maps.proofs.set.NameSet.contains.Goals as goal

pub returns : goal.returns
returns g c = c.contains_key.ensures ∙ contains_seen c.self.inside.map.entries (ap (λ s. s.keys) c.self.view_is) (g.Q.Query.equivalent c.args.value)

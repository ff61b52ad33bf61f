use mathlib.Core.Path.{ap, subst, ◌∙◌}
use Rattle.std.specs.List.{IsDistinct}
use Rattle.std_collections.proofs.SetKeys.{length_seen}
use Rattle.warg_maps.proofs.set.NameSet.len.Goals as goal

pub returns-clause-len : goal.returns-clause-len
returns-clause-len g c = c.len.ensures.len ∙ length_seen c.self.inside.map.entries (ap (λ set. set.keys) c.self.view_is)

pub returns-clause-unique : goal.returns-clause-unique
returns-clause-unique g c = subst (IsDistinct g.T.PartialEq.eq) (ap (λ set. set.keys) c.self.view_is) c.len.ensures.unique

use mathlib.Core.Path.{ap, subst, ◌∙◌}
use Rattle.std.specs.List.{IsDistinct}
use Rattle.warg_maps.proofs.MapLemmas.{keys-seen, length-seen}
use Rattle.warg_maps.proofs.map.NameMap.len.Goals as goal

pub returns-clause-len : goal.returns-clause-len
returns-clause-len g c = c.len.ensures ∙ c.self.inside.keys.ok.0 ∙ length-seen c.self.inside.keys.items c.self.inside.values.items _ c.self.invariant.0 (ap (λ v. v.entries) c.self.view_is)

pub returns-clause-unique : goal.returns-clause-unique
returns-clause-unique g c = subst (IsDistinct g.K.PartialEq.eq) (keys-seen c.self.inside.keys.items c.self.inside.values.items _ c.self.invariant.0 (ap (λ v. v.entries) c.self.view_is)) c.self.invariant.1.distinct

use mathlib.Core.Path.{ap, subst, ◌∙◌}
use native.Mathlib.Omega.{arith}
use Rattle.std.specs.Prelude.{length}
use Rattle.std.specs.List.{IsDistinct}
use Rattle.std.specs.Map.Iter.{deref}
use Rattle.std_collections.proofs.IterRuns.{shows_in_order, shows_in_reverse}
use Rattle.warg_maps.proofs.MapLemmas.{keys-seen, length-seen}
use Rattle.warg_maps.proofs.map.NameMap.keys.Goals as goal

pub returns-clause-rest : goal.returns-clause-rest
returns-clause-rest g c = c.of.ensures ∙ c.as_slice.ensures.value ∙ keys-seen c.self.inside.keys.items c.self.inside.values.items _ c.self.invariant.0 (ap (λ v. v.entries) c.self.view_is)

pub returns-clause-len : goal.returns-clause-len
returns-clause-len g c = ap length (c.of.ensures ∙ c.as_slice.ensures.value) ∙ length-seen c.self.inside.keys.items c.self.inside.values.items _ c.self.invariant.0 (ap (λ v. v.entries) c.self.view_is)

pub returns-clause-runs : goal.returns-clause-runs
returns-clause-runs g c = shows_in_order deref

pub returns-clause-runs_back : goal.returns-clause-runs_back
returns-clause-runs_back g c = shows_in_reverse deref

pub returns-clause-unique : goal.returns-clause-unique
returns-clause-unique g c = subst (IsDistinct g.K.PartialEq.eq) (keys-seen c.self.inside.keys.items c.self.inside.values.items _ c.self.invariant.0 (ap (λ v. v.entries) c.self.view_is)) c.self.invariant.1.distinct

pub returns-clause-fits : goal.returns-clause-fits
returns-clause-fits g c = omega (arith, length-seen c.self.inside.keys.items c.self.inside.values.items _ c.self.invariant.0 (ap (λ v. v.entries) c.self.view_is), c.self.inside.keys.ok.0, c.self.inside.keys.ok.1, c.self.inside.keys.small)

use mathlib.Core.Path.{ap, subst}
use native.Mathlib.Omega.{arith}
use Rattle.std.specs.List.{IsDistinct}
use Rattle.std.specs.Map.Iter.{deref_pair}
use Rattle.std_collections.proofs.IterRuns.{shows_in_order, shows_in_reverse, shows_values_in_order}
use Rattle.warg_maps.proofs.MapLemmas.{keys-seen, length-seen}
use Rattle.warg_maps.proofs.map.NameMap.iter.Goals as goal

pub returns-clause-runs : goal.returns-clause-runs
returns-clause-runs g c = shows_in_order deref_pair

pub returns-clause-runs_back : goal.returns-clause-runs_back
returns-clause-runs_back g c = shows_in_reverse deref_pair

pub returns-clause-values_run : goal.returns-clause-values_run
returns-clause-values_run g c = shows_values_in_order deref_pair

pub returns-clause-unique : goal.returns-clause-unique
returns-clause-unique g c = subst (IsDistinct g.K.PartialEq.eq) (keys-seen c.self.inside.keys.items c.self.inside.values.items _ c.self.invariant.0 (ap (λ v. v.entries) c.self.view_is)) c.self.invariant.1.distinct

pub returns-clause-fits : goal.returns-clause-fits
returns-clause-fits g c = omega (arith, length-seen c.self.inside.keys.items c.self.inside.values.items _ c.self.invariant.0 (ap (λ v. v.entries) c.self.view_is), c.self.inside.keys.ok.0, c.self.inside.keys.ok.1, c.self.inside.keys.small)

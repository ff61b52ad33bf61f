use mathlib.Core.Path.{ap, subst, ◌≡◌}
use Rattle.std.specs.List.{AllZip}
use Rattle.std.specs.Map.{keys_of}
use Rattle.std_collections.proofs.SetKeys.{clones_seen}
use Rattle.warg_maps.proofs.set.NameSetClone.clone.Goals as goal

pub returns : goal.returns
returns g c =
    let all = clones_seen g.T.Clone.is_clone (λ before after. after ≡ before) c.self.inside.map.entries c.in_ok-map.map.entries c.in_ok-map.ensures.cases in
    record { cases = subst (λ old. AllZip g.T.Clone.is_clone old (keys_of c.in_ok-map.map.entries)) (ap (λ set. set.keys) c.self.view_is) all }

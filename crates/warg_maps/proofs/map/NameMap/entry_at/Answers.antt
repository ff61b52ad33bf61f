use mathlib.Core.Path.{sym, ap, ◌∙◌}
use native.Mathlib.Omega.{arith}
use Rattle.std.specs.List.{slice_get}
use Rattle.std_collections.proofs.Zip.{slice_get-zip}
use Rattle.warg_maps.proofs.MapLemmas.{length-seen}
use Rattle.warg_maps.proofs.map.NameMap.entry_at.Goals as goal

pub index-requires : goal.index-requires
index-requires g c = omega (arith, c.self.inside.keys.ok.0, c.requires, length-seen c.self.inside.keys.items c.self.inside.values.items _ c.self.invariant.0 (ap (λ v. v.entries) c.self.view_is))

pub index-requires-2 : goal.index-requires-2
index-requires-2 g c = omega (arith, c.self.inside.values.ok.0, c.self.invariant.0, c.requires, length-seen c.self.inside.keys.items c.self.inside.values.items _ c.self.invariant.0 (ap (λ v. v.entries) c.self.view_is))

pub returns : goal.returns
returns g c =
    let ks = c.self.inside.keys.items in
    let vs = c.self.inside.values.items in
    let long = length-seen c.self.inside.keys.items c.self.inside.values.items _ c.self.invariant.0 (ap (λ v. v.entries) c.self.view_is) in
    ap (λ es. slice_get es c.args.i) (sym (ap (λ v. v.entries) c.self.view_is))
    ∙ slice_get-zip ks vs c.args.i _ _ (omega (arith, c.requires, long)) (omega (arith, c.requires, long, c.self.invariant.0)) c.index.ensures c.index-2.ensures

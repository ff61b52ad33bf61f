use Rattle.std.specs.Prelude.{slice_get}
use mathlib.Core.Path.{refl, sym, ap, ◌∙◌}
use native.Mathlib.Omega.{arith}
use lib.ListN.{length-set}
use Rattle.indexmap.specs.IndexMap.{hasher_of, spare}
use Rattle.indexmap.specs.Layout.{hash_map, set_value_at}
use Rattle.std_collections.proofs.Zip.{slice_get_at, zip-set_value}
use Rattle.warg_maps.proofs.MapLemmas.{values-seen, length-seen}
use Rattle.warg_maps.proofs.map.NameMap.lend_value.Goals as goal

pub index_mut-requires : goal.index_mut-requires
index_mut-requires g c = omega (arith, c.self.inside.values.ok.0, c.self.invariant.0, c.requires, length-seen c.self.inside.keys.items c.self.inside.values.items _ c.self.invariant.0 (ap (λ v. v.entries) c.self.view_is))

pub invariant_of-self-lent : goal.invariant_of-self-lent
invariant_of-self-lent g c w = (length-set c.self.inside.values.items c.args.i w ∙ c.self.invariant.0, c.self.invariant.1)

pub returns : goal.returns
returns g c =
    let ks = c.self.inside.keys.items in
    let vs = c.self.inside.values.items in
    let i = c.args.i in (
      (
        refl,
        λ w.
            let sides = zip-set_value ks vs i w ∙ ap (λ v. set_value_at v.entries i w) c.self.view_is in
            λ j. hash_map (sides j) (hasher_of (c.self.view_is j)) (spare (c.self.view_is j)),
      ),
      record {
        writes_back = tt;
        value = ap (λ l. slice_get l i) (sym (values-seen c.self.inside.keys.items c.self.inside.values.items _ c.self.invariant.0 (ap (λ v. v.entries) c.self.view_is)))
            ∙ slice_get_at vs i _ (omega (arith, c.self.invariant.0, c.requires, length-seen c.self.inside.keys.items c.self.inside.values.items _ c.self.invariant.0 (ap (λ v. v.entries) c.self.view_is))) c.index_mut.ensures.value;
      },
    )

use Rattle.std.specs.Prelude.{length}
use mathlib.Core.Path.{refl, sym, ap, ◌∙◌}
use Rattle.std_collections.proofs.HashLookup.{distinct_nil}
use Rattle.std_collections.proofs.Zip.{zip_empty}
use Rattle.warg_maps.proofs.MapLemmas.{whole-empty}
use Rattle.warg_maps.proofs.map.NameMap.with_hasher.Goals as goal

pub invariant_of-result : goal.invariant_of-result
invariant_of-result g c = (
  ap length c.new-2.ensures.items ∙ sym (ap length c.new.ensures.items),
  whole-empty _ _ _ _ _ _ _ c.new.ensures.items c.new-3.ensures.items,
)

pub returns : goal.returns
returns g c =
    let none = zip_empty c.new.result.items c.new-2.result.items (ap length c.new.ensures.items) in
    record { empty = none; len = ap length none; hasher = refl; unique = distinct_nil _ g.met.K.Eq.laws _ none }

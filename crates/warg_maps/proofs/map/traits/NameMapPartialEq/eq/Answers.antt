use Rattle.std.specs.Prelude.{◌≡◌, ◌<◌, true, get_or}
use mathlib.Core.Path.{sym, ◌∙◌}
use native.Mathlib.Omega.{arith}
use borrow.Author.Count.{below_more}
use Rattle.std.specs.Option.{option_eq}
use Rattle.std_collections.specs.Layout.Columns.{entry_at}
use Rattle.indexmap.specs.IndexMap.{keys, index_map_len, get}
use Rattle.std_collections.proofs.HashMapEq.{unequal_at, unequal_len, equal_by_keys}
use Rattle.warg_maps.proofs.map.traits.NameMapPartialEq.eq.Goals as goal

pub returns-then-len : goal.returns-then-len
returns-then-len g c =
    unequal_len _ g.met.K.Eq.laws _ c.args.self.now c.args.other.now c.len-len.ensures.unique c.len.ensures.unique (λ same. c.if-len.true (c.len-len.ensures.len ∙ same ∙ sym c.len.ensures.len))

pub returns-then-not-agrees_at : goal.returns-then-not-agrees_at
returns-then-not-agrees_at g c =
    let place = c.loop-place.place in
    let within : place < index_map_len c.args.self.now = omega (arith, c.loop-place-test.true, c.len-len.ensures.len) in
    let d = (entry_at c.args.self.now.entries place within).0 in
    unequal_at _ g.met.K.Eq.laws _ c.args.self.now c.args.other.now (get_or (keys c.args.self.now) place d) (sym (c.agrees_at.ensures d) ∙ c.if-not-agrees_at.true)

pub loop-place-preserved : goal.loop-place-preserved
loop-place-preserved g c =
    let agree = λ (k : g.row.K.Denot). option_eq g.V.PartialEq.eq (get g.K.PartialEq.eq c.args.self.now k) (get g.K.PartialEq.eq c.args.other.now k) ≡ true in
    below_more (λ i. (d : g.row.K.Denot) → agree (get_or (keys c.args.self.now) i d)) c.loop-place.place c.loop-place.invariant (λ d. sym (c.agrees_at.ensures d) ∙ c.if-not-agrees_at.false)

pub returns : goal.returns
returns g c =
    equal_by_keys _ g.met.K.Eq.laws _ c.args.self.now c.args.other.now c.len-len.ensures.unique c.len.ensures.unique
    (omega (arith, c.if-len.false, c.len-len.ensures.len, c.len.ensures.len)) (λ i p. c.loop-place.invariant i (omega (arith, p, c.loop-place-test.false, c.len-len.ensures.len)))

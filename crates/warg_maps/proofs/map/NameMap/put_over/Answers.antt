use Rattle.std.proofs.Common.{◌≡◌, length, slice_get, Some}
use mathlib.Core.Path.{sym, ap, ◌∙◌}
use native.Mathlib.Omega.{arith}
use Rattle.std.specs.Map.{values_of}
use Rattle.std_collections.specs.Layout.Columns.{set_value_at}
use Rattle.std_collections.proofs.Entries.{length-set_value_at}
use Rattle.std_collections.proofs.Zip.{slice_get_at, zip-set_value}
use Rattle.indexmap.proofs.MapLemmas.{Found-position, insert_entry-first}
use Rattle.warg_maps.proofs.MapLemmas.{values-seen, length-seen}
use Rattle.warg_maps.proofs.map.NameMap.put_over.Goals as goal

pub index_mut-requires : goal.index_mut-requires
index_mut-requires g c =
    let f = Found-position (g.K.PartialEq.eq c.args.key.now) c.args.self.now.entries c.args.place c.requires in
    omega (arith, f.within, c.self.inside.values.ok.0, c.self.invariant.0, length-seen c.self.inside.keys.items c.self.inside.values.items _ c.self.invariant.0 (ap (λ v. v.entries) c.self.view_is))

pub returns-clause-puts : goal.returns-clause-puts
returns-clause-puts g c =
    let ks = c.self.inside.keys.items in
    let vs = c.self.inside.values.items in
    let es = c.args.self.now.entries in
    let i = c.args.place in
    let f = Found-position (g.K.PartialEq.eq c.args.key.now) es i c.requires in
    let x = c.index_mut.result.now in
    let stood : slice_get (values_of es) i ≡ Some c.replace.result
    = ap (λ l. slice_get l i) (sym (values-seen c.self.inside.keys.items c.self.inside.values.items _ c.self.invariant.0 (ap (λ v. v.entries) c.self.view_is)))
    ∙ slice_get_at vs i x (omega (arith, f.within, c.self.invariant.0, length-seen c.self.inside.keys.items c.self.inside.values.items _ c.self.invariant.0 (ap (λ v. v.entries) c.self.view_is))) c.index_mut.ensures.value ∙ ap Some (sym c.replace.ensures.value) in
    let after = zip-set_value ks vs i _ ∙ (λ j. set_value_at (c.self.view_is j).entries i (c.replace.ensures.after j)) in
    record {
      place = sym f.or_len;
      within = omega (arith, f.within, ap length after, length-set_value_at es i c.args.value);
      before = sym (f.value ∙ stood);
      entries = after ∙ sym (insert_entry-first _ _ _ es _ f.first);
    }

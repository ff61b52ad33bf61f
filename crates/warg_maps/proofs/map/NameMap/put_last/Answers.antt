use Rattle.std.proofs.Common.{◌≡◌, ◌∷◌, [], ◌++◌, length}
use mathlib.Core.Path.{sym, ap, ◌∙◌}
use native.Mathlib.Omega.{arith}
use Rattle.std.proofs.lemmas.List.{length_push}
use Rattle.std.specs.Map.{lookup}
use Rattle.indexmap.proofs.MapLemmas.{Missing-position, insert_entry-absent}
use Rattle.warg_maps.proofs.map.NameMap.put_last.Goals as goal

pub add_last-requires-clause-absent : goal.add_last-requires-clause-absent
add_last-requires-clause-absent g c =
    let t = g.K.PartialEq.eq c.args.key in
    ap (lookup t) c.room_for_one.ensures.same ∙ (Missing-position t c.args.self.now.entries c.requires.absent).value

pub returns-clause-puts : goal.returns-clause-puts
returns-clause-puts g c =
    let es = c.args.self.now.entries in
    let e : g.row.K.Denot × g.row.V.Denot = (c.args.key, c.args.value) in
    let m = Missing-position (g.K.PartialEq.eq c.args.key) es c.requires.absent in
    let after : c.add_last.new.self.entries ≡ es ++ e ∷ [] = ap (λ n. n.entries) c.add_last.ensures ∙ ap (λ l. l ++ e ∷ []) c.room_for_one.ensures.same in
    let place = c.len-place.ensures.len ∙ ap length c.room_for_one.ensures.same in
    record {
      place = place ∙ sym m.or_len;
      within = omega (arith, place, ap length after, length_push es e);
      before = sym m.value;
      entries = after ∙ sym (insert_entry-absent _ _ _ es m.absent);
    }

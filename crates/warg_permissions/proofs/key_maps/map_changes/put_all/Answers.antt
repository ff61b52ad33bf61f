use Rattle.std.proofs.Common.{[], sym, ap, ◌∙◌}
use Rattle.std.proofs.lemmas.List.{nil_from_length}
use Rattle.indexmap.specs.IndexMap.{insert_all}
use Rattle.warg_permissions.proofs.KeyMapsLemmas.MapLaws.{insert_all-apart}
use Rattle.warg_permissions.proofs.key_maps.map_changes.put_all.Goals as goal

pub returns-then-is_empty-clause-entries : goal.returns-then-is_empty-clause-entries
returns-then-is_empty-clause-entries g c =
    let same = g.K.PartialEq.eq in
    let none = nil_from_length c.args.map.now.entries (c.is_empty.ensures.0 c.if-is_empty.true) in
    sym (insert_all-apart g.met.K.Eq.laws [] c.args.changes.entries c.len-len.ensures.unique)
    ∙ ap (λ es. insert_all same es c.args.changes.entries) (sym none)

use Rattle.std.proofs.Common.{rules, refl, ap, ◌∙◌}
use Rattle.std.proofs.lemmas.Map.Made.{update_all_distinct}
use Rattle.std.specs.Cmp.Lexicographic.{nat_list_eq_equiv}
use Rattle.std.specs.Map.{lookup}
use Rattle.std.specs.Option.{option_or}
use Rattle.std.specs.Str.{bytes_eq}
use Rattle.indexmap.specs.IndexMap.{InsertsAll}
use Rattle.warg_permissions.proofs.KeyMapsLemmas.MapLaws.{over_others}
use Rattle.warg_permissions.proofs.key_maps.map_changes.lay_over.Goals as goal

pub returns-then-len : goal.returns-then-len
returns-then-len g c = λ k.
    let kept = c.keep_others.new.map in
    let changed = lookup (bytes_eq k) c.args.changes.entries in
    let inserts : InsertsAll bytes_eq c.args.changes kept.entries c.append.new.self = search rules in
    inserts.0 k
    ∙ update_all_distinct nat_list_eq_equiv bytes_eq (λ x y. refl) _ kept.entries k c.keep_others.ensures.unique
    ∙ ap (λ o. option_or o changed) (c.keep_others.ensures.values k)
    ∙ over_others changed (lookup (bytes_eq k) c.args.map.now.entries)

pub returns-else-len : goal.returns-else-len
returns-else-len g c = λ k.
    let inserts : InsertsAll bytes_eq c.args.map.now c.args.changes.entries c.append-else-len.new.self = search rules in
    inserts.0 k ∙ update_all_distinct nat_list_eq_equiv bytes_eq (λ x y. refl) _ c.args.changes.entries k c.len-2.ensures.unique

use Rattle.std.proofs.Common.{◌≡◌, sym, ap, ◌∙◌, None, Some, false, ◌||◌, if◌then◌else◌}
use Rattle.std.specs.Option.{option_map_or, option_or}
use Rattle.std.specs.Map.{lookup}
use Rattle.std.specs.Str.{bytes_eq}
use Rattle.std.specs.List.{list_any}
use Rattle.warg_permissions.specs.Permissions.{lists}
use Rattle.warg_permissions.specs.KeyMaps.Rights.{value_over}
use Rattle.warg_permissions.proofs.KeyMapsLemmas.RightsLemmas.{holds-give, entries-give}
use Rattle.warg_permissions.proofs.key_maps.rights.give.Goals as goal

pub returns-clause-holds : goal.returns-clause-holds
returns-clause-holds g c =
    let same = g.P.PartialEq.eq in
    let base = c.args.stood.now.rights.now.entries in
    let id = c.args.key_id in
    let before = value_over base c.args.changes.now.entries in
    let stays = c.get_mut.follows.holds-at-none in
    let set = c.in_ok-set.set in
    let none : lookup (bytes_eq id) c.args.changes.now.entries ≡ None = sym c.in_default.ensures.value in
    holds-give same before (value_over base c.put.new.changes.entries) id set c.args.permissions.now (λ k. c.in_ok-put.ensures base k ∙ ap (λ (m : _). if bytes_eq id k then Some set else value_over base m.entries k) stays)
    (λ p. c.in_ok-set.ensures p
    ∙ ap (λ o. option_map_or (λ ps. list_any (same p) ps) o false || lists same c.args.permissions.now p) (c.get.ensures.value ∙ ap (λ o. option_or o (lookup (bytes_eq id) base)) (sym none)))

pub returns-clause-entries : goal.returns-clause-entries
returns-clause-entries g c =
    let base = c.args.stood.now.rights.now.entries in
    let id = c.args.key_id in
    let stays = c.get_mut.follows.holds-at-none in
    let set = c.in_ok-set.set in
    entries-give g.P.PartialEq.eq (value_over base c.args.changes.now.entries) (value_over base c.put.new.changes.entries) id set c.args.permissions.now (λ k. c.in_ok-put.ensures base k ∙ ap (λ (m : _). if bytes_eq id k then Some set else value_over base m.entries k) stays)

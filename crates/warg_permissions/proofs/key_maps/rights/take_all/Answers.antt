use Rattle.std.proofs.Common.{◌≡◌, List, [], ap, sym, subst, ◌∙◌, IfOk, Option, None, Some, false, is_some, if◌then◌else◌}
use Rattle.std.specs.Map.{lookup}
use Rattle.std.specs.Option.{option_map_or, option_or}
use Rattle.std.specs.Str.{bytes_eq}
use Rattle.std.specs.List.{list_any}
use Rattle.warg_permissions.specs.Permissions.{lists}
use Rattle.warg_permissions.specs.KeyMaps.Rights.{first_missing, value_over}
use Rattle.warg_permissions.proofs.KeyMapsLemmas.RightsLemmas.{holds-take, entries-take}
use Rattle.warg_permissions.proofs.key_maps.rights.take_all.Goals as goal

pub returns-clause-holds : goal.returns-clause-holds
returns-clause-holds g c =
    let same = g.P.PartialEq.eq in
    let base = c.args.stood.now.rights.now.entries in
    let id = c.args.key_id.now in
    let before = value_over base c.args.changes.now.entries in
    let none : lookup (bytes_eq id) c.args.changes.now.entries ≡ None = sym c.in_default.ensures.value in
    let stays = c.get_mut.follows.holds-at-none in
    let set = c.take_from-2.new.held in
    let taken = rw c.in_default-2.is at c.in_ok-missing.ensures.taken in
    holds-take same before (value_over base c.put.new.changes.entries) id set c.args.permissions.now
    (λ k. c.in_ok-put.ensures base k ∙ (λ i. if bytes_eq (c.in_ok-clone.ensures.cases i) k then Some set else value_over base (stays i).entries k))
    (λ p. taken p
    ∙ ap (λ h. if lists same c.args.permissions.now p then false else h)
    (ap (λ ps. list_any (same p) ps) c.in_ok-set.ensures ∙ ap (λ o. option_map_or (λ ps. list_any (same p) ps) o false) (c.in-Some-get.ensures.value ∙ ap (λ o. option_or o (lookup (bytes_eq id) base)) (sym none))))

pub returns-clause-entries : goal.returns-clause-entries
returns-clause-entries g c =
    let base = c.args.stood.now.rights.now.entries in
    let id = c.args.key_id.now in
    let before = value_over base c.args.changes.now.entries in
    let none : lookup (bytes_eq id) c.args.changes.now.entries ≡ None = sym c.in_default.ensures.value in
    let stays = c.get_mut.follows.holds-at-none in
    let set = c.take_from-2.new.held in
    entries-take g.P.PartialEq.eq before (value_over base c.put.new.changes.entries) id set c.args.permissions.now
    (λ k. c.in_ok-put.ensures base k ∙ (λ i. if bytes_eq (c.in_ok-clone.ensures.cases i) k then Some set else value_over base (stays i).entries k))
    (ap is_some (ap (λ o. option_or o (lookup (bytes_eq id) base)) none ∙ sym c.in-Some-get.ensures.value))

pub returns-in-Some-clause-missing : goal.returns-in-Some-clause-missing
returns-in-Some-clause-missing g c =
    let same = g.P.PartialEq.eq in
    let rest = lookup (bytes_eq c.args.key_id.now) c.args.stood.now.rights.now.entries in
    subst (λ (o : Option (List g.row.P.Denot)). IfOk c.take_from.result
    (λ missing. missing ≡ first_missing same (λ p. option_map_or (λ ps. list_any (same p) ps) (option_or o rest) false) [] c.args.permissions.now))
    c.in-Some.ensures.value c.take_from.ensures.missing

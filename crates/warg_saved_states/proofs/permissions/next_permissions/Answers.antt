use Rattle.std.proofs.Common.{◌≡◌, ◌<◌, ◌∙◌, [], length, None, Some, ap, subst, arith, rules}
use Rattle.std.proofs.lemmas.Result.{err_from_is_err_and}
use Rattle.json.specs.Json.{after_end_array, value}
use Rattle.serde_json.specs.Data.{no_items}
use Rattle.serde_json.specs.Read.{converted, of_json}
use Rattle.warg_saved_states.proofs.PermissionItems.{permissions_begin, permissions_end, permissions_next, permissions_refused}
use Rattle.warg_saved_states.specs.SavedPermissions.{permissions_after}
use Rattle.warg_saved_states.proofs.permissions.next_permissions.Goals as goal

pub items-init : goal.items-init
items-init g c =
    let none : c.new-set.result.keys ≡ [] = search rules in
    permissions_begin g.P.PartialEq.eq g.P.LogPermission.permission_named (value c.args.depth) c.args.reader.now c.new-set.result.keys none

pub items-preserved : goal.items-preserved
items-preserved g c =
    let l = c.items in
    let going : (after_end_array l.reader ≡ None) × (c.take_end_array.new.self ≡ l.reader) = grind arith in
    let next = c.in_ok-found.ensures in
    permissions_next g.P.PartialEq.eq g.P.LogPermission.permission_named (value c.args.depth) c.args.reader.now l.reader c.next_permission.new.reader
    l.set.keys c.take_permission.new.set.keys l.fault c.in_ok-fault.fault next.json going.0 (rw (← going.1) next.text) (rw (← going.1) next.shorter)
    (c.in_ok-fault.ensures.ok next.json next.read) l.invariant

pub returns-in_err-found : goal.returns-in_err-found
returns-in_err-found g c =
    let l = c.items in
    let going : (after_end_array l.reader ≡ None) × (c.take_end_array.new.self ≡ l.reader) = grind arith in
    let p = err_from_is_err_and c.from_residual.result c.from_residual.ensures.1 in
    rw (p.1, p.2) (λ same. permissions_refused g.P.PartialEq.eq g.P.LogPermission.permission_named (value c.args.depth) c.args.reader.now l.reader l.fault l.set.keys going.0
    (subst (λ ts. converted of_json (value c.args.depth ts) ≡ None) going.1 (c.in_err-found.ensures same)) l.invariant)

pub returns-in-None : goal.returns-in-None
returns-in-None g c =
    let l = c.items in
    let all = permissions_end g.P.PartialEq.eq g.P.LogPermission.permission_named (value c.args.depth) c.args.reader.now l.reader c.take_end_array.new.self l.fault l.set.keys (grind arith) l.invariant in
    (all.0, all.1, all.2, all.3 ∙ ap (λ f. permissions_after g.P.PartialEq.eq g.P.LogPermission.permission_named f l.set.keys no_items) c.in-None.is)

pub returns-in-Some : goal.returns-in-Some
returns-in-Some g c =
    let l = c.items in
    let all = permissions_end g.P.PartialEq.eq g.P.LogPermission.permission_named (value c.args.depth) c.args.reader.now l.reader c.take_end_array.new.self l.fault l.set.keys (grind arith) l.invariant in
    (all.0, all.1, all.2, all.3 ∙ ap (λ f. permissions_after g.P.PartialEq.eq g.P.LogPermission.permission_named f l.set.keys no_items) c.in-Some.is)

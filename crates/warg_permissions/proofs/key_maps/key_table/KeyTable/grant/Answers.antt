use Rattle.std.proofs.Common.{ap, ◌∙◌, ◌&&◌, ◌||◌, true, Some, if◌then◌else◌}
use Rattle.std.specs.Str.{bytes_eq}
use Rattle.warg_permissions.specs.Permissions.{lists}
use Rattle.warg_permissions.specs.KeyMaps.Rights.{value_over, held_over, has_entry_over}
use Rattle.warg_permissions.proofs.key_maps.key_table.KeyTable.grant.Goals as goal

pub returns-clause-holds : goal.returns-clause-holds
returns-clause-holds g c =
    let same = g.P.PartialEq.eq in
    let base = c.args.self.now.permissions in
    let printed = c.in_ok-key_id.ensures ∙ c.in_ok-fingerprint.ensures in
    λ k p. c.in_ok-give.ensures.holds k p
    ∙ (λ i. if bytes_eq (printed i) k && lists same c.args.permissions.now p then true else held_over same base (c.register.ensures.permissions i) k p)

pub returns-clause-entries : goal.returns-clause-entries
returns-clause-entries g c =
    let base = c.args.self.now.permissions in
    let printed = c.in_ok-key_id.ensures ∙ c.in_ok-fingerprint.ensures in
    λ k. c.in_ok-give.ensures.entries k ∙ (λ i. has_entry_over base (c.register.ensures.permissions i) k || bytes_eq (printed i) k)

pub returns-clause-keys : goal.returns-clause-keys
returns-clause-keys g c =
    let copied = c.in_ok-clone.ensures.cases ∙ c.in_ok-key_id.ensures ∙ c.in_ok-fingerprint.ensures in
    λ base k. ap (λ (m : _). value_over base m.entries k) c.give.ensures.keys
    ∙ c.in_ok-register.ensures.keys base k
    ∙ (λ i. if bytes_eq (copied i) k then Some c.args.key.now else value_over base c.args.changes.now.keys.entries k)

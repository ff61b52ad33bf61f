use Rattle.std.proofs.Common.{ap, ◌∙◌, Some, if◌then◌else◌}
use Rattle.std.specs.Str.{bytes_eq}
use Rattle.warg_permissions.specs.KeyMaps.Rights.{value_over, held_over, has_entry_over}
use Rattle.warg_permissions.proofs.key_maps.key_table.KeyTable.begin.Goals as goal

pub returns-clause-holds : goal.returns-clause-holds
returns-clause-holds g c =
    λ k p. ap (λ (m : _). held_over g.P.PartialEq.eq c.args.self.now.permissions m k p) c.register.ensures.permissions ∙ c.in_ok-give_all.ensures.holds k p

pub returns-clause-entries : goal.returns-clause-entries
returns-clause-entries g c =
    λ k. ap (λ (m : _). has_entry_over c.args.self.now.permissions m k) c.register.ensures.permissions ∙ c.in_ok-give_all.ensures.entries k

pub returns-clause-keys : goal.returns-clause-keys
returns-clause-keys g c =
    λ base k. c.in_ok-register.ensures.keys base k
    ∙ ap (λ (m : _). if bytes_eq c.args.key_id k then Some c.args.key.now else value_over base m.entries k) c.give_all.ensures.keys

use Rattle.std.proofs.Common.{refl}
use Rattle.warg_log.proofs.Steps.{init-step}
use Rattle.warg_log.proofs.authority.Authority.init.Goals as goal

pub returns-clause-after : goal.returns-clause-after
returns-clause-after g c =
    let a = c.self.inside in
    let b = c.changes.inside in
    let new = c.begin.new.changes in
    init-step g.P.PartialEq.eq a.algorithm b.algorithm a.maps.permissions b.maps.permissions new.permissions a.maps.keys b.maps.keys new.keys c.args.signer.now c.args.self.now c.args.changes.now _ c.self.view_is c.changes.view_is
    c.args.hash_algorithm refl c.args.key.now c.in_ok-key_id.key_id c.in_ok-key_id.ensures.id
    (c.in_ok-begin.ensures.keys a.maps.keys.entries) c.in_ok-begin.ensures.holds c.in_ok-begin.ensures.entries

use Rattle.std.proofs.Common.{refl}
use Rattle.warg_log.proofs.Steps.{grant-step}
use Rattle.warg_log.proofs.authority.Authority.grant.Goals as goal

pub returns-clause-after : goal.returns-clause-after
returns-clause-after g c =
    let a = c.self.inside in
    let b = c.changes.inside in
    let new = c.grant.new.changes in
    grant-step g.P.PartialEq.eq a.algorithm b.algorithm a.maps.permissions b.maps.permissions new.permissions a.maps.keys b.maps.keys new.keys c.args.origin.now.signer.now c.args.self.now c.args.changes.now _ c.self.view_is c.changes.view_is refl
    c.args.key.now c.args.permissions.now (c.in_ok-grant.ensures.keys a.maps.keys.entries) c.in_ok-grant.ensures.holds c.in_ok-grant.ensures.entries

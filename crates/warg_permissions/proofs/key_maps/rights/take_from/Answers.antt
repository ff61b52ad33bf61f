use Rattle.std.proofs.Common.{[], sym, ap, ◌∙◌, false, if◌then◌else◌}
use Rattle.std.specs.List.{list_any}
use Rattle.warg_permissions.specs.Permissions.{lists}
use Rattle.warg_permissions.specs.KeyMaps.Rights.{first_missing}
use Rattle.warg_permissions.proofs.key_maps.rights.take_from.Goals as goal

pub returns-in-Some-clause-missing : goal.returns-in-Some-clause-missing
returns-in-Some-clause-missing g c =
    sym c.in-Some.is ∙ c.remove_all.ensures.missing ∙ (λ i. first_missing g.P.PartialEq.eq (λ p. c.in_ok-set.ensures p i) [] c.args.permissions.now)

pub returns-clause-missing : goal.returns-clause-missing
returns-clause-missing g c =
    sym c.in_default.is ∙ c.remove_all.ensures.missing ∙ (λ i. first_missing g.P.PartialEq.eq (λ p. c.in_ok-set.ensures p i) [] c.args.permissions.now)

pub returns-clause-taken : goal.returns-clause-taken
returns-clause-taken g c =
    let same = g.P.PartialEq.eq in
    let taken = rw c.in_default.is at c.remove_all.ensures.taken in
    λ p. ap (λ ps. list_any (same p) ps) c.in_ok-held.ensures ∙ taken p ∙ ap (λ h. if lists same c.args.permissions.now p then false else h) (c.in_ok-set.ensures p)

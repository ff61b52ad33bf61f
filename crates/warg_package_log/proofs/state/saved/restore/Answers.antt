use Rattle.std.proofs.Common.{List, sym, subst, ◌∙◌}
use Rattle.warg_permissions.specs.PackagePermissions.{same_permission}
use Rattle.warg_log.specs.Rules.{IsCoherent}
use Rattle.warg_package_log.specs.Releases.{ReleaseView, rules}
use Rattle.warg_package_log.specs.SavedParts.{parts_view}
use Rattle.warg_package_log.specs.SavedState.{state_of}
use Rattle.warg_package_log.specs.State.{view_of}
use Rattle.warg_package_log.proofs.SavedStates.{coherent_state, filed_releases}
use Rattle.warg_package_log.proofs.state.saved.restore.Goals as goal

pub restore-releases-requires : goal.restore-releases-requires
restore-releases-requires c = filed_releases (parts_view c.args.parts) c.requires

pub restore-requires : goal.restore-requires
restore-requires c =
    let s = state_of (parts_view c.args.parts) in
    subst (λ (rs : List ReleaseView). IsCoherent rules same_permission (view_of (record s { own_state = rs })))
    (sym c.restore-releases.ensures) (coherent_state (parts_view c.args.parts) c.requires)

pub returns : goal.returns
returns c =
    let s = state_of (parts_view c.args.parts) in
    c.restore.ensures ∙ (λ i. record s { own_state = c.restore-releases.ensures i })

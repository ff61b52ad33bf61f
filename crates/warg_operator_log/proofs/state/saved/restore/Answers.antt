use Rattle.std.proofs.Common.{ℕ, List, sym, subst, ◌∙◌}
use Rattle.warg_permissions.specs.OperatorPermissions.{same_permission}
use Rattle.warg_log.specs.Rules.{IsCoherent}
use Rattle.warg_operator_log.specs.Namespaces.{Namespace, rules}
use Rattle.warg_operator_log.specs.SavedParts.{parts_view}
use Rattle.warg_operator_log.specs.SavedState.{state_of}
use Rattle.warg_operator_log.specs.State.{view_of}
use Rattle.warg_operator_log.proofs.SavedStates.{coherent_state, named_namespaces}
use Rattle.warg_operator_log.proofs.state.saved.restore.Goals as goal

pub restore-namespaces-requires : goal.restore-namespaces-requires
restore-namespaces-requires c = named_namespaces (parts_view c.args.parts) c.requires

pub restore-requires : goal.restore-requires
restore-requires c =
    let s = state_of (parts_view c.args.parts) in
    subst (λ (ns : List (List ℕ × Namespace)). IsCoherent rules same_permission (view_of (record s { own_state = ns })))
    (sym c.restore-namespaces.ensures) (coherent_state (parts_view c.args.parts) c.requires)

pub returns : goal.returns
returns c =
    let s = state_of (parts_view c.args.parts) in
    c.restore.ensures ∙ (λ i. record s { own_state = c.restore-namespaces.ensures i })

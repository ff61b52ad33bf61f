-- Parts of a state that fit together stand for a coherent log.
use Rattle.std.proofs.Common.{◌≡◌, None, ap}
use Rattle.warg_permissions.specs.OperatorPermissions.{same_permission}
use Rattle.warg_saved_states.proofs.Cases.{nil}
use Rattle.warg_log.specs.Rules.{IsCoherent}
use Rattle.warg_log.proofs.SavedPartLaws.{coherent_saved, parts_fit}
use Rattle.warg_operator_log.specs.Namespaces.{names, rules}
use Rattle.warg_operator_log.specs.SavedState.{Parts, incoherence, namespaces_case, state_of}
use Rattle.warg_operator_log.specs.State.{view_of}

pub named_namespaces : (s : Parts) → incoherence s ≡ None → namespaces_case s.seconds ≡ None
named_namespaces s h = (parts_fit None s.firsts (namespaces_case s.seconds) s h).after_keys

pub coherent_state : (s : Parts) → incoherence s ≡ None → IsCoherent rules same_permission (view_of (state_of s))
coherent_state s h = coherent_saved rules same_permission (names) None s.firsts (namespaces_case s.seconds) s s.seconds
    (λ no_keys no_namespaces. (nil s.firsts no_keys, ap names (nil s.seconds no_namespaces))) h

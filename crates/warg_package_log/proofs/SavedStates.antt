-- Parts of a state that fit together stand for a coherent log.
use Rattle.std.proofs.Common.{◌≡◌, List, map, None, ap}
use Rattle.warg_permissions.specs.PackagePermissions.{same_permission}
use Rattle.warg_saved_states.proofs.Cases.{nil}
use Rattle.warg_log.specs.Rules.{IsCoherent}
use Rattle.warg_log.proofs.SavedPartLaws.{coherent_saved, parts_fit}
use Rattle.warg_package_log.specs.Releases.{ReleaseView, rules}
use Rattle.warg_package_log.specs.SavedState.{Parts, incoherence, releases_case, state_of}
use Rattle.warg_package_log.specs.State.{view_of}

pub filed_releases : (s : Parts) → incoherence s ≡ None → releases_case s.firsts ≡ None
filed_releases s h = (parts_fit (releases_case s.firsts) s.seconds None s h).before_keys

pub coherent_state : (s : Parts) → incoherence s ≡ None → IsCoherent rules same_permission (view_of (state_of s))
coherent_state s h = coherent_saved rules same_permission (λ (rs : List ReleaseView). rs) (releases_case s.firsts) s.seconds None s (map (λ e. e.1) s.firsts)
    (λ no_releases no_keys. (nil s.seconds no_keys, ap (map (λ e. e.1)) (nil s.firsts no_releases))) h

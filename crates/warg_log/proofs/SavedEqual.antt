-- States whose maps are found alike are equal.
use Rattle.std.proofs.Common.{◌≡◌, refl, ap, ◌∙◌}
use Rattle.std.specs.Prelude.{ℕ, List, Bool, true, false, ◌&&◌, Option, Some, None}
use Rattle.std.specs.Cmp.{IsEquivalence}
use Rattle.std.specs.Map.{lookup}
use Rattle.std.specs.Option.{option_eq}
use Rattle.std.specs.Str.{bytes_eq}
use Rattle.warg_crypto.specs.NamedBytes.{same_named_bytes}
use Rattle.warg_crypto.specs.SameLaws.{same_named_bytes_equiv}
use Rattle.warg_permissions.specs.KeyMaps.AuthorityData.{AuthorityData}
use Rattle.warg_permissions.specs.PermissionSets.{same_sets}
use Rattle.warg_permissions.specs.PermissionSetLaws.{sets_equiv}
use Rattle.warg_permissions.specs.KeyMaps.Equal.{same_algorithm, same_maps}
use Rattle.warg_log.specs.Equal.{same_head, same_states}
use Rattle.warg_permissions.specs.KeyMaps.EqualLaws.{maps_from_get}
use Rattle.warg_log.specs.EqualLaws.{head_equiv}
use Rattle.warg_log.specs.States.{State}

both : (a b : Bool) → a ≡ true → b ≡ true → (a && b) ≡ true
both true b h g = g
both false b h g = cc

-- what may be missing is the same as itself
pub option_self : {A : Type 0} (E : A → A → Bool) → ((x : A) → E x x ≡ true) → (o p : Option A) → p ≡ o → option_eq E o p ≡ true
option_self {A = A} E self o p is = ap (option_eq E o) is ∙ by o
  where
    by : (o : Option A) → option_eq E o o ≡ true
    by None = refl
    by (Some x) = self x

-- maps that are found alike are the same
pub equal_maps : {X : Type 0} (E : X → X → Bool) → ((x : X) → E x x ≡ true) → (es fs : List (List ℕ × X))
    → ((q : List ℕ) → lookup (bytes_eq q) fs ≡ lookup (bytes_eq q) es) → same_maps E es fs ≡ true
equal_maps E self es fs at = maps_from_get bytes_eq E es fs (λ q. option_self E self (lookup (bytes_eq q) es) (lookup (bytes_eq q) fs) (at q))

pub equal_states : {P M : Type 0} {same : P → P → Bool} (equiv : IsEquivalence same) (own_states : M → M → Bool) (s t : State (AuthorityData P) M)
    → t.authority.algorithm ≡ s.authority.algorithm → t.head ≡ s.head
    → ((q : List ℕ) → lookup (bytes_eq q) t.authority.rights ≡ lookup (bytes_eq q) s.authority.rights)
    → ((q : List ℕ) → lookup (bytes_eq q) t.authority.keys ≡ lookup (bytes_eq q) s.authority.keys)
    → own_states s.own_state t.own_state ≡ true → same_states same own_states s t ≡ true
equal_states {same = same} equiv own_states s t algorithm head rights keys own_state =
    both _ _
    (both _ _ (option_self same_algorithm (λ x. refl) s.authority.algorithm t.authority.algorithm algorithm)
    (both _ _ (equal_maps (same_sets same) (sets_equiv equiv).refl s.authority.rights t.authority.rights rights)
    (equal_maps same_named_bytes same_named_bytes_equiv.refl s.authority.keys t.authority.keys keys)))
    (both _ _ own_state (option_self same_head head_equiv.refl s.head t.head head))

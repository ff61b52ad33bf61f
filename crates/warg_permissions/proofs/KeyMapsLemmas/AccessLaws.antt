-- When two say the same of who may do what.
use Rattle.std.proofs.Common.{◌≡◌, ℕ, List}
use Rattle.warg_permissions.specs.KeyMaps.AuthorityData.{AccessView}

-- two standings that agree in each answer are one
pub same_access_view : {P : Type 0} (s t : AccessView P) → s.algorithm ≡ t.algorithm → ((k : List ℕ) (p : P) → s.holds k p ≡ t.holds k p)
    → ((k : List ℕ) → s.has_entry k ≡ t.has_entry k) → ((k : List ℕ) → s.key k ≡ t.key k) → s ≡ t
same_access_view s t a h e k = λ i. record { algorithm = a i; holds = λ x p. h x p i; has_entry = λ x. e x i; key = λ x. k x i }

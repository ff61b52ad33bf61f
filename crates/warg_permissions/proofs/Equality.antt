-- Values that are one where a comparison says so are compared by it exactly so.
use Rattle.std.specs.Prelude.{◌≡◌, Bool, true}
use Rattle.std.specs.Bool.{Decides}
use Rattle.std.specs.Cmp.{IsEquivalence}
use Rattle.std.proofs.Common.{subst}

pub decided : {P : Type 0} (same : P → P → Bool) → IsEquivalence same → ((p q : P) → same p q ≡ true → p ≡ q)
    → (p q : P) → Decides (same p q) (p ≡ q)
decided same equiv is p q = (is p q, λ h. subst (λ x. same p x ≡ true) h (equiv.refl p))

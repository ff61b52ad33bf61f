-- Values that are one are equal.
use Rattle.std.specs.Prelude.{◌≡◌, Bool, true}
use Rattle.std.specs.Cmp.{IsEquivalence}
use Rattle.std.proofs.Common.{subst}

-- of any equivalence
pub same_equal : {A : Type 0} {eq : A → A → Bool} → IsEquivalence eq → (x y : A) → x ≡ y → eq x y ≡ true
same_equal {A} {eq} laws x y same = subst (λ (z : A). eq x z ≡ true) same (laws.refl x)

use Rattle.std.proofs.Common.{◌≡◌, ◌≢◌, ℕ, ◌+◌, ◌-◌, ◌*◌, ◌%◌, ◌/◌, ◌<◌, ◌≤◌, ◌^◌, Bool, true, false, ap, sym, ◌∙◌, subst, refl, lit<, arith}
use Rattle.std.proofs.lemmas.Nat.{mul-mod_second, pow-add, shr-shr}
use Rattle.std.proofs.Math.Nat.{mod-eq_of_lt, mod-lt, div-one, pow-suc, pow-zero}
use Rattle.warg_primes.proofs.Congruent.{Same, same, same_of, same_mod, back, then, both_times, both_plus}
use Rattle.warg_modular.proofs.Rounds.{same_scaled}
use Rattle.warg_p256.proofs.FieldElements.{strip, times_of}
use Rattle.warg_modular.specs.Value.{value}
use Rattle.warg_curve.specs.Order.{order}
use Rattle.warg_p256.specs.Scalars.{order_shrink, scalar}
use Rattle.warg_modular.specs.declared.words.Words.{Words}

order_shrinks : (2 ^ 256 * order_shrink) % order ≡ 1
unfolding order_shrink order
order_shrinks = refl

pub order_pos : 0 < order
unfolding order
order_pos = lit< tt

pub scalar_times : (r a b : Words) (q : ℕ) → q ≡ order → (value r * 2 ^ 256) % q ≡ (value a * value b) % q → scalar r ≡ (scalar a * scalar b) % order
unfolding scalar
scalar_times r a b q e h =
    times_of (value r) (value a) (value b) order (2 ^ 256) order_shrink order_shrinks (subst (λ m. (value r * 2 ^ 256) % m ≡ (value a * value b) % m) e h)

pub plain_times : (r a b : Words) (q : ℕ) → q ≡ order → value r < q → (value r * 2 ^ 256) % q ≡ (value a * value b) % q → value r ≡ (value a * scalar b) % order
unfolding scalar
plain_times r a b q e l h =
    let h2 : (value r * 2 ^ 256) % order ≡ (value a * value b) % order = subst (λ m. (value r * 2 ^ 256) % m ≡ (value a * value b) % m) e h in
    let l2 : value r < order = subst (λ m. value r < m) e l in
    let e1 : value r * (2 ^ 256 * order_shrink) ≡ value r * 2 ^ 256 * order_shrink = omega arith in
    let e2 : value a * value b * order_shrink ≡ value a * (value b * order_shrink) = omega arith in
    sym (mod-eq_of_lt l2) ∙ sym (strip (value r) (2 ^ 256) order_shrink order order_shrinks) ∙ ap (λ v. v % order) e1
    ∙ same_scaled (value r * 2 ^ 256) (value a * value b) order order_shrink h2 ∙ ap (λ v. v % order) e2 ∙ sym (mul-mod_second (value a) (value b * order_shrink) order)

pub square_number : scalar record { l0 = 9449762124159643298; l1 = 5087230966250696614; l2 = 2901921493521525849; l3 = 7413256579398063648 } ≡ 2 ^ 256 % order
unfolding scalar value order order_shrink
square_number = refl

pub scalar_to_montgomery : (r a : Words) → scalar r ≡ (scalar a * scalar record { l0 = 9449762124159643298; l1 = 5087230966250696614; l2 = 2901921493521525849; l3 = 7413256579398063648 }) % order → scalar r ≡ value a % order
unfolding scalar
scalar_to_montgomery r a h =
    let e1 : value a * order_shrink * 2 ^ 256 ≡ value a * (2 ^ 256 * order_shrink) = omega arith in
    let both : Same order (scalar a * scalar record { l0 = 9449762124159643298; l1 = 5087230966250696614; l2 = 2901921493521525849; l3 = 7413256579398063648 }) (value a * order_shrink * 2 ^ 256) = both_times (same_mod order (scalar a) (value a * order_shrink) refl) (same_mod order _ (2 ^ 256) square_number) in
    h ∙ both.is ∙ ap (λ v. v % order) e1 ∙ strip (value a) (2 ^ 256) order_shrink order order_shrinks

-- one bit more of an exponent
pub power_even : (n r d a e i : ℕ) → Same n r (a ^ (e / 2 ^ i)) → d ≡ (r * r) % n → 0 < i → (e / 2 ^ (i - 1)) % 2 ≢ 1 → Same n d (a ^ (e / 2 ^ (i - 1)))
power_even n r d a e i s h pos bit =
    let k : ℕ = e / 2 ^ (i - 1) in
    let back_i : i - 1 + 1 ≡ i = omega arith in
    let half : k / 2 ≡ e / 2 ^ i = shr-shr e (i - 1) 1 ∙ ap (λ v. e / 2 ^ v) back_i in
    let sum : k / 2 + k / 2 ≡ k = omega arith in
    then (same_mod n d (r * r) h) (then (both_times s s) (same_of _ _ (ap (λ v. a ^ v * a ^ v) (sym half) ∙ sym (pow-add a (k / 2) (k / 2)) ∙ ap (λ v. a ^ v) sum)))

pub power_odd : (n r d f a e i : ℕ) → Same n r (a ^ (e / 2 ^ i)) → d ≡ (r * r) % n → f ≡ (d * a) % n → 0 < i → (e / 2 ^ (i - 1)) % 2 ≡ 1 → Same n f (a ^ (e / 2 ^ (i - 1)))
power_odd n r d f a e i s h g pos bit =
    let k : ℕ = e / 2 ^ (i - 1) in
    let back_i : i - 1 + 1 ≡ i = omega arith in
    let half : k / 2 ≡ e / 2 ^ i = shr-shr e (i - 1) 1 ∙ ap (λ v. e / 2 ^ v) back_i in
    let sum : k / 2 + k / 2 + 1 ≡ k = omega arith in
    let one : a ^ (k / 2) * a ^ (k / 2) * a ≡ a ^ (k / 2 + k / 2 + 1) =
    ap (λ v. v * a) (sym (pow-add a (k / 2) (k / 2))) ∙ first a (k / 2 + k / 2) in
    then (same_mod n f (d * a) g) (then (both_times (then (same_mod n d (r * r) h) (both_times s s)) (same a)) (same_of _ _ (ap (λ v. a ^ v * a ^ v * a) (sym half) ∙ one ∙ ap (λ v. a ^ v) sum)))
  where
    first : (a m : ℕ) → a ^ m * a ≡ a ^ (m + 1)
    first a m = sym (pow-add a m 1 ∙ ap (λ v. a ^ m * v) (pow-suc a 0 ∙ ap (λ v. v * a) (pow-zero a) ∙ (let e : 1 * a ≡ a = omega arith in e)))

-- bits above the highest make the exponent 0
pub power_start : (n r a e i : ℕ) → r ≡ 1 → e / 2 ^ i ≡ 0 → Same n r (a ^ (e / 2 ^ i))
power_start n r a e i h z = same_of _ _ (h ∙ sym (ap (λ v. a ^ v) z ∙ pow-zero a))

pub power_end : (n r a e i : ℕ) → r < n → i ≤ 0 → Same n r (a ^ (e / 2 ^ i)) → r ≡ (a ^ e) % n
power_end n r a e i l h s =
    let z : i ≡ 0 = omega arith in
    sym (mod-eq_of_lt l) ∙ s.is ∙ ap (λ v. (a ^ (e / 2 ^ v)) % n) z ∙ ap (λ v. (a ^ v) % n) (div-one e)

pub scalar_below : (w : Words) → scalar w < order
unfolding scalar
scalar_below w = mod-lt (value w * order_shrink) order_pos

pub not_set : (b : Bool) (n : ℕ) → ((b ≡ true → n ≡ 1) × (n ≡ 1 → b ≡ true)) → b ≡ false → n ≢ 1
not_set b n h f e = let g : b ≡ true = h.1 e in cc

-- 0 is 0 in Montgomery's form
pub zero_number : scalar record { l0 = 0; l1 = 0; l2 = 0; l3 = 0 } ≡ 0
unfolding scalar value order order_shrink
zero_number = refl

-- and back
pub scalar_from_zero : (a : Words) → value a ≡ 0 → scalar a ≡ 0
unfolding scalar order order_shrink
scalar_from_zero a e = ap (λ v. (v * order_shrink) % order) e

-- the number that the words stand for
same_scalar : (w : Words) → Same order (scalar w) (value w * order_shrink)
unfolding scalar
same_scalar w = same_mod order _ _ refl

-- a difference of the words is one of the numbers that they stand for
pub scalar_minus : (r a b : Words) (q : ℕ) → q ≡ order → (value r + value b) % q ≡ value a → (scalar r + scalar b) % order ≡ scalar a
scalar_minus r a b q e h =
    let h2 : (value r + value b) % order ≡ value a = subst (λ m. (value r + value b) % m ≡ value a) e h in
    let s : Same order (value r + value b) (value a) = back (same_mod order (value a) (value r + value b) (sym h2)) in
    let g : value r * order_shrink + value b * order_shrink ≡ (value r + value b) * order_shrink = omega arith in
    let t : Same order (scalar r + scalar b) (scalar a) = then (both_plus (same_scalar r) (same_scalar b)) (then (same_of _ _ g) (then (both_times s (same order_shrink)) (back (same_scalar a)))) in
    t.is ∙ mod-eq_of_lt (scalar_below a)

-- the same of a half
pub scalar_half : (r a : Words) (q : ℕ) → q ≡ order → (value r * 2) % q ≡ value a → (scalar r * 2) % order ≡ scalar a
scalar_half r a q e h =
    let h2 : (value r * 2) % order ≡ value a = subst (λ m. (value r * 2) % m ≡ value a) e h in
    let s : Same order (value r * 2) (value a) = back (same_mod order (value a) (value r * 2) (sym h2)) in
    let g : value r * order_shrink * 2 ≡ value r * 2 * order_shrink = omega arith in
    let t : Same order (scalar r * 2) (scalar a) = then (both_times (same_scalar r) (same 2)) (then (same_of _ _ g) (then (both_times s (same order_shrink)) (back (same_scalar a)))) in
    t.is ∙ mod-eq_of_lt (scalar_below a)

-- 1 is below the order
one_reduced : 1 % order ≡ 1
unfolding order
one_reduced = refl

-- 2 ^ 256 in Montgomery's form, times another number in it
pub radix_times : (c : ℕ) (a : Words) → c ≡ 2 ^ 256 % order → Same order (c * scalar a) (value a)
radix_times c a h =
    let g : 2 ^ 256 * (value a * order_shrink) ≡ value a * (2 ^ 256 * order_shrink) = omega arith in
    let one : Same order (2 ^ 256 * order_shrink) 1 = record { is = order_shrinks ∙ sym one_reduced } in
    let e : value a * 1 ≡ value a = omega arith in
    then (both_times (same_mod order c (2 ^ 256) h) (same_scalar a)) (then (same_of _ _ g) (then (both_times (same (value a)) one) (same_of _ _ e)))

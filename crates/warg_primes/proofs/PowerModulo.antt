use Rattle.std.proofs.Common.{◌≡◌, ℕ, zero, suc, ◌+◌, ◌*◌, ◌/◌, ◌%◌, ◌^◌, ◌<◌, ap, sym, ◌∙◌, refl, arith}
use Rattle.std.proofs.lemmas.Nat.{pow-add}
use Rattle.std.proofs.Math.Nat.{pow-zero, pow-suc}
use Rattle.warg_primes.proofs.Congruent.{Same, same, same_of, same_mod, then, both_times}

-- a ^ k modulo n, for k of b bits, by squares: r is a ^ (k / 2)
unfoldable pub next_power : ℕ → ℕ → ℕ → ℕ → ℕ
next_power zero a n r = (r * r) % n
next_power (suc z) a n r = (r * r * a) % n

unfoldable pub power_modulo : ℕ → ℕ → ℕ → ℕ → ℕ
power_modulo zero a k n = 1
power_modulo (suc b) a k n = next_power (k % 2) a n (power_modulo b a (k / 2) n)

next_is : (z a n r h : ℕ) → z < 2 → Same n r (a ^ h) → Same n (next_power z a n r) (a ^ (h + h + z))
unfolding next_power
next_is zero a n r h l s =
    let e : h + h + 0 ≡ h + h = omega arith in
    then (same_mod n _ (r * r) refl) (then (both_times s s) (same_of _ _ (sym (pow-add a h h) ∙ ap (λ v. a ^ v) (sym e))))
next_is (suc z) a n r h l s =
    let e : h + h + suc z ≡ suc (h + h) = omega arith in
    then (same_mod n _ (r * r * a) refl) (then (both_times (both_times s s) (same a)) (same_of _ _ (ap (λ v. v * a) (sym (pow-add a h h)) ∙ sym (pow-suc a (h + h)) ∙ ap (λ v. a ^ v) (sym e))))

pub power_is : (b a k n : ℕ) → k < 2 ^ b → Same n (power_modulo b a k n) (a ^ k)
unfolding power_modulo
power_is zero a k n h =
    let e : k ≡ 0 = omega (arith, pow-zero 2) in
    same_of _ _ (sym (ap (λ v. a ^ v) e ∙ pow-zero a))
power_is (suc b) a k n h =
    let p : 2 ^ suc b ≡ 2 ^ b * 2 = pow-suc 2 b in
    let half : k / 2 < 2 ^ b = omega arith in
    let e : k / 2 + k / 2 + k % 2 ≡ k = omega arith in
    let l : k % 2 < 2 = omega arith in
    then (next_is (k % 2) a n _ (k / 2) l (power_is b a (k / 2) n half)) (same_of _ _ (ap (λ v. a ^ v) e))

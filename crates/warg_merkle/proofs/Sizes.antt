-- The left part of a tree.
use Rattle.std.proofs.Common.{◌≡◌, ℕ, zero, suc, ◌*◌, ◌^◌, ◌<◌, ◌≤◌, ltb, true, false, inl, inr, refl, sym, ◌∙◌, ap, arith}
use Rattle.std.proofs.Math.Nat.{pow-succ', pow-le-pow_right}
use Rattle.std.proofs.lemmas.Nat.{pow_pos}
use Rattle.std.proofs.lemmas.Bool.{cases_lt}
use Rattle.std.proofs.lemmas.Bool.Decides.{nat_tests}
use Rattle.warg_merkle.specs.Trees.{power_below, left_size, IsLeftSize}

powers : (j n : ℕ) → 1 < n → n ≤ 2 ^ suc j → IsLeftSize n (power_below j n)
unfolding power_below
powers zero n more most = record { power = 0; is_power = refl; below = more; largest = omega arith }
powers (suc j) n more most = elim (cases_lt (2 ^ suc j) n) [
  | inl is ↦
      let test : ltb (2 ^ suc j) n ≡ true = grind (arith, nat_tests) in
      let twice = pow-succ' 2 (suc j) in
      rw test record { power = suc j; is_power = refl; below = is; largest = omega arith }
  | inr is_not ↦
      let test : ltb (2 ^ suc j) n ≡ false = grind (arith, nat_tests) in
      rw test (powers j n more is_not)
]

below_power : (n : ℕ) → n < 2 ^ n
below_power zero = omega arith
below_power (suc n) = let before = below_power n in let twice = pow-succ' 2 n in omega arith

pub left_part : (n : ℕ) → 1 < n → IsLeftSize n (left_size n)
unfolding left_size
left_part n more = let enough = below_power n in let twice = pow-succ' 2 n in powers n n more (omega arith)

pub left_pos : (n : ℕ) → 1 < n → 0 < left_size n
left_pos n more = let part = left_part n more in let pos = pow_pos part.power in let is = part.is_power in omega arith

pub power_order : (j g : ℕ) → 2 ^ j < 2 ^ g → j < g
power_order j g less = elim (cases_lt j g) [
  | inl is ↦ is
  | inr is_not ↦ let above : 2 ^ g ≤ 2 ^ j = pow-le-pow_right (omega arith) is_not in absurd (omega arith)
]

-- there is one such power
pub one_left : (n k j : ℕ) → k ≡ 2 ^ j → k < n → n ≤ 2 * k → 1 < n → k ≡ left_size n
one_left n k j is below largest more =
    let part = left_part n more in
    let i : ℕ = part.power in
    let is_i : left_size n ≡ 2 ^ i = part.is_power in
    let below_i = part.below in
    let largest_i = part.largest in
    let twice_i = pow-succ' 2 i in
    let twice_j = pow-succ' 2 j in
    let low : j < suc i = power_order j (suc i) (omega arith) in
    let high : i < suc j = power_order i (suc j) (omega arith) in
    let same : j ≡ i = omega arith in
    is ∙ ap (λ x. 2 ^ x) same ∙ sym is_i

pub is_left_size : (n k : ℕ) → 1 < n → IsLeftSize n k → left_size n ≡ k
is_left_size n k more h = sym (one_left n k h.power h.is_power h.below h.largest more)

use Rattle.std.proofs.Common.{◌≡◌, ℕ, ◌+◌, ◌-◌, ◌*◌, ◌/◌, ◌%◌, ◌<◌, ◌≤◌, ◌^◌, ap, sym, ◌∙◌, arith}
use Rattle.std.proofs.lemmas.Nat.{pow_pos, pow-add, shr-shr, shr_high}
use Rattle.std.proofs.Math.Nat.{add-mul-div_left, add-mul-mod_self_right}
use Rattle.warg_modular.specs.Value.{value}
use Rattle.warg_modular.specs.declared.words.Words.{Words}

-- the words above the lowest do not reach its bits
low_bit : (l h i : ℕ) → i < 64 → ((l + h * 2 ^ 64) / 2 ^ i) % 2 ≡ (l / 2 ^ i) % 2
low_bit l h i b =
    let d : ℕ = 63 - i in
    let e0 : i + (d + 1) ≡ 64 = omega arith in
    let e1 : 2 ^ 64 ≡ 2 ^ i * (2 ^ d * 2) = ap (λ v. 2 ^ v) (sym e0) ∙ pow-add 2 i (d + 1) ∙ ap (λ v. 2 ^ i * v) (pow-add 2 d 1) in
    let e2 : l + h * 2 ^ 64 ≡ l + 2 ^ i * (h * 2 ^ d * 2) = ap (λ v. l + h * v) e1 ∙ rearranged l h (2 ^ i) (2 ^ d) in
    ap (λ v. (v / 2 ^ i) % 2) e2 ∙ ap (λ v. v % 2) (add-mul-div_left l (h * 2 ^ d * 2) (pow_pos i)) ∙ add-mul-mod_self_right (l / 2 ^ i) (h * 2 ^ d) 2
  where
    rearranged : (l h a b : ℕ) → l + h * (a * (b * 2)) ≡ l + a * (h * b * 2)
    rearranged l h a b = omega arith

-- a bit above the lowest word is one of the other words
high_bit : (l h i : ℕ) → l < 2 ^ 64 → 64 ≤ i → ((l + h * 2 ^ 64) / 2 ^ i) % 2 ≡ (h / 2 ^ (i - 64)) % 2
high_bit l h i b c =
    let e0 : 64 + (i - 64) ≡ i = omega arith in
    let e1 : l + h * 2 ^ 64 ≡ h * 2 ^ 64 + l = omega arith in
    ap (λ v. ((l + h * 2 ^ 64) / 2 ^ v) % 2) (sym e0) ∙ ap (λ v. v % 2) (sym (shr-shr (l + h * 2 ^ 64) 64 (i - 64)))
    ∙ ap (λ v. ((v / 2 ^ 64) / 2 ^ (i - 64)) % 2) e1 ∙ ap (λ v. (v / 2 ^ (i - 64)) % 2) (shr_high h 64 l b)

as_two : (w : Words) → value w ≡ w.l0 + (w.l1 + (w.l2 + w.l3 * 2 ^ 64) * 2 ^ 64) * 2 ^ 64
unfolding value
as_two w = omega arith

pub bit_0 : (w : Words) (i : ℕ) → i < 64 → (value w / 2 ^ i) % 2 ≡ (w.l0 / 2 ^ i) % 2
bit_0 w i h = ap (λ v. (v / 2 ^ i) % 2) (as_two w) ∙ low_bit w.l0 _ i h

above_0 : (w : Words) (i : ℕ) → w.l0 < 2 ^ 64 → 64 ≤ i → (value w / 2 ^ i) % 2 ≡ ((w.l1 + (w.l2 + w.l3 * 2 ^ 64) * 2 ^ 64) / 2 ^ (i - 64)) % 2
above_0 w i r h = ap (λ v. (v / 2 ^ i) % 2) (as_two w) ∙ high_bit w.l0 _ i r h

pub bit_1 : (w : Words) (i : ℕ) → w.l0 < 2 ^ 64 → 64 ≤ i → i < 128 → (value w / 2 ^ i) % 2 ≡ (w.l1 / 2 ^ (i - 64)) % 2
bit_1 w i r h k = above_0 w i r h ∙ low_bit w.l1 _ (i - 64) (omega arith)

above_1 : (w : Words) (i : ℕ) → w.l0 < 2 ^ 64 → w.l1 < 2 ^ 64 → 128 ≤ i → (value w / 2 ^ i) % 2 ≡ ((w.l2 + w.l3 * 2 ^ 64) / 2 ^ (i - 128)) % 2
above_1 w i r s h =
    let e : i - 64 - 64 ≡ i - 128 = omega arith in
    above_0 w i r (omega arith) ∙ high_bit w.l1 _ (i - 64) s (omega arith) ∙ ap (λ v. ((w.l2 + w.l3 * 2 ^ 64) / 2 ^ v) % 2) e

pub bit_2 : (w : Words) (i : ℕ) → w.l0 < 2 ^ 64 → w.l1 < 2 ^ 64 → 128 ≤ i → i < 192 → (value w / 2 ^ i) % 2 ≡ (w.l2 / 2 ^ (i - 128)) % 2
bit_2 w i r s h k = above_1 w i r s h ∙ low_bit w.l2 _ (i - 128) (omega arith)

pub bit_3 : (w : Words) (i : ℕ) → w.l0 < 2 ^ 64 → w.l1 < 2 ^ 64 → w.l2 < 2 ^ 64 → 192 ≤ i → (value w / 2 ^ i) % 2 ≡ (w.l3 / 2 ^ (i - 192)) % 2
bit_3 w i r s t h =
    let e : i - 128 - 64 ≡ i - 192 = omega arith in
    above_1 w i r s (omega arith) ∙ high_bit w.l2 _ (i - 128) t (omega arith) ∙ ap (λ v. (w.l3 / 2 ^ v) % 2) e

use Rattle.std.proofs.Common.{◌≡◌, ℕ, inl, inr, suc, zero, ◌+◌, ◌*◌, ◌%◌, ◌/◌, ◌<◌, ◌≤◌, ◌^◌, ap, sym, ◌∙◌, refl, Bool, true, false, arith}
use Rattle.std.specs.Int.{from_bool}
use Rattle.std.proofs.lemmas.Bool.{cases_eq}
use Rattle.std.proofs.lemmas.Nat.{mul-mod_first}
use Rattle.warg_modular.specs.Value.{value, wide}
use Rattle.warg_modular.specs.declared.words.Words.{Words}
use Rattle.warg_modular.specs.declared.montgomery.Wide.{Wide}
use Rattle.std.proofs.Math.Nat.{mul-le-mul_right, mul-le-mul_left, add-mod_right, mod-eq_of_lt, add-mul-mod_self_right}

-- the low word of s + m * p is 0
pub low_zero : (s i p : ℕ) → (p * i + 1) % 2 ^ 64 ≡ 0 → (((s * i) % 2 ^ 64) * p + s) % 2 ^ 64 ≡ 0
low_zero s i p h =
    let m : ℕ = (s * i) % 2 ^ 64 in
    let k : ℕ = (s * i) / 2 ^ 64 in
    let j : ℕ = (p * i + 1) / 2 ^ 64 in
    let e : s * i ≡ 2 ^ 64 * k + m = omega arith in
    let f : p * i + 1 ≡ 2 ^ 64 * j = omega arith in
    let g : (s * i) * p ≡ (2 ^ 64 * k + m) * p = ap (λ v. v * p) e in
    let l : s * (p * i + 1) ≡ s * (2 ^ 64 * j) = ap (λ v. s * v) f in
    omega arith

-- the words of one row make the sum of the whole numbers
pub row_total : (t0 t1 t2 t3 a b0 b1 b2 b3 low l0 l1 l2 l3 c0 c1 c2 : ℕ) →
    low + c0 * 2 ^ 64 ≡ a * b0 + 0 + t0 →
    l0 + c1 * 2 ^ 64 ≡ a * b1 + c0 + t1 →
    l1 + c2 * 2 ^ 64 ≡ a * b2 + c1 + t2 →
    l2 + l3 * 2 ^ 64 ≡ a * b3 + c2 + t3 →
    low + (l0 + l1 * 2 ^ 64 + l2 * 2 ^ 128 + l3 * 2 ^ 192) * 2 ^ 64
    ≡ (t0 + t1 * 2 ^ 64 + t2 * 2 ^ 128 + t3 * 2 ^ 192) + a * (b0 + b1 * 2 ^ 64 + b2 * 2 ^ 128 + b3 * 2 ^ 192)
row_total t0 t1 t2 t3 a b0 b1 b2 b3 low l0 l1 l2 l3 c0 c1 c2 e0 e1 e2 e3 = omega arith

-- four rows make the product
pub rows_total : (a0 a1 a2 a3 b l0 l1 l2 l3 t1 t2 t3 t4 : ℕ) →
    l0 + t1 * 2 ^ 64 ≡ 0 + a0 * b →
    l1 + t2 * 2 ^ 64 ≡ t1 + a1 * b →
    l2 + t3 * 2 ^ 64 ≡ t2 + a2 * b →
    l3 + t4 * 2 ^ 64 ≡ t3 + a3 * b →
    (l0 + l1 * 2 ^ 64 + l2 * 2 ^ 128 + l3 * 2 ^ 192) + t4 * 2 ^ 256 ≡ (a0 + a1 * 2 ^ 64 + a2 * 2 ^ 128 + a3 * 2 ^ 192) * b
rows_total a0 a1 a2 a3 b l0 l1 l2 l3 t1 t2 t3 t4 e0 e1 e2 e3 = omega arith

-- the products of two words, each once
crossed_once : (a0 a1 a2 a3 w1 w2 u3 u4 w3 w4 u5 w5 w6 c1 c2 c3 : ℕ) →
    w1 + c1 * 2 ^ 64 ≡ a0 * a1 + 0 + 0 →
    w2 + c2 * 2 ^ 64 ≡ a0 * a2 + c1 + 0 →
    u3 + u4 * 2 ^ 64 ≡ a0 * a3 + c2 + 0 →
    w3 + c3 * 2 ^ 64 ≡ a1 * a2 + 0 + u3 →
    w4 + u5 * 2 ^ 64 ≡ a1 * a3 + c3 + u4 →
    w5 + w6 * 2 ^ 64 ≡ a2 * a3 + 0 + u5 →
    w1 + w2 * 2 ^ 64 + w3 * 2 ^ 128 + w4 * 2 ^ 192 + w5 * 2 ^ 256 + w6 * 2 ^ 320
    ≡ a0 * a1 + a0 * a2 * 2 ^ 64 + (a0 * a3 + a1 * a2) * 2 ^ 128 + a1 * a3 * 2 ^ 192 + a2 * a3 * 2 ^ 256
crossed_once a0 a1 a2 a3 w1 w2 u3 u4 w3 w4 u5 w5 w6 c1 c2 c3 e1 e2 e3 e4 e5 e6 = omega arith

-- the words doubled
crossed_twice : (w1 w2 w3 w4 w5 w6 l1 l2 l3 h0 h1 h2 h3 d1 d2 d3 d4 d5 : ℕ) →
    l1 + d1 * 2 ^ 64 ≡ w1 * 2 + 0 + 0 →
    l2 + d2 * 2 ^ 64 ≡ w2 * 2 + d1 + 0 →
    l3 + d3 * 2 ^ 64 ≡ w3 * 2 + d2 + 0 →
    h0 + d4 * 2 ^ 64 ≡ w4 * 2 + d3 + 0 →
    h1 + d5 * 2 ^ 64 ≡ w5 * 2 + d4 + 0 →
    h2 + h3 * 2 ^ 64 ≡ w6 * 2 + d5 + 0 →
    l1 + l2 * 2 ^ 64 + l3 * 2 ^ 128 + h0 * 2 ^ 192 + h1 * 2 ^ 256 + h2 * 2 ^ 320 + h3 * 2 ^ 384
    ≡ 2 * (w1 + w2 * 2 ^ 64 + w3 * 2 ^ 128 + w4 * 2 ^ 192 + w5 * 2 ^ 256 + w6 * 2 ^ 320)
crossed_twice w1 w2 w3 w4 w5 w6 l1 l2 l3 h0 h1 h2 h3 d1 d2 d3 d4 d5 e1 e2 e3 e4 e5 e6 = omega arith

-- with the squares of the words they make the square
pub crossed : (a0 a1 a2 a3 w1 w2 u3 u4 w3 w4 u5 w5 w6 c1 c2 c3 l1 l2 l3 h0 h1 h2 h3 d1 d2 d3 d4 d5 : ℕ) →
    w1 + c1 * 2 ^ 64 ≡ a0 * a1 + 0 + 0 →
    w2 + c2 * 2 ^ 64 ≡ a0 * a2 + c1 + 0 →
    u3 + u4 * 2 ^ 64 ≡ a0 * a3 + c2 + 0 →
    w3 + c3 * 2 ^ 64 ≡ a1 * a2 + 0 + u3 →
    w4 + u5 * 2 ^ 64 ≡ a1 * a3 + c3 + u4 →
    w5 + w6 * 2 ^ 64 ≡ a2 * a3 + 0 + u5 →
    l1 + d1 * 2 ^ 64 ≡ w1 * 2 + 0 + 0 →
    l2 + d2 * 2 ^ 64 ≡ w2 * 2 + d1 + 0 →
    l3 + d3 * 2 ^ 64 ≡ w3 * 2 + d2 + 0 →
    h0 + d4 * 2 ^ 64 ≡ w4 * 2 + d3 + 0 →
    h1 + d5 * 2 ^ 64 ≡ w5 * 2 + d4 + 0 →
    h2 + h3 * 2 ^ 64 ≡ w6 * 2 + d5 + 0 →
    (0 + l1 * 2 ^ 64 + l2 * 2 ^ 128 + l3 * 2 ^ 192) + (h0 + h1 * 2 ^ 64 + h2 * 2 ^ 128 + h3 * 2 ^ 192) * 2 ^ 256
    + (a0 * a0 + a1 * a1 * 2 ^ 128 + a2 * a2 * 2 ^ 256 + a3 * a3 * 2 ^ 384)
    ≡ (a0 + a1 * 2 ^ 64 + a2 * 2 ^ 128 + a3 * 2 ^ 192) * (a0 + a1 * 2 ^ 64 + a2 * 2 ^ 128 + a3 * 2 ^ 192)
crossed a0 a1 a2 a3 w1 w2 u3 u4 w3 w4 u5 w5 w6 c1 c2 c3 l1 l2 l3 h0 h1 h2 h3 d1 d2 d3 d4 d5 e1 e2 e3 e4 e5 e6 f1 f2 f3 f4 f5 f6 =
    let once = crossed_once a0 a1 a2 a3 w1 w2 u3 u4 w3 w4 u5 w5 w6 c1 c2 c3 e1 e2 e3 e4 e5 e6 in
    let twice = crossed_twice w1 w2 w3 w4 w5 w6 l1 l2 l3 h0 h1 h2 h3 d1 d2 d3 d4 d5 f1 f2 f3 f4 f5 f6 in
    crossed_square a0 a1 a2 a3 _ l1 l2 l3 h0 h1 h2 h3 once twice
  where
    crossed_square : (a0 a1 a2 a3 w l1 l2 l3 h0 h1 h2 h3 : ℕ) →
        w ≡ a0 * a1 + a0 * a2 * 2 ^ 64 + (a0 * a3 + a1 * a2) * 2 ^ 128 + a1 * a3 * 2 ^ 192 + a2 * a3 * 2 ^ 256 →
        l1 + l2 * 2 ^ 64 + l3 * 2 ^ 128 + h0 * 2 ^ 192 + h1 * 2 ^ 256 + h2 * 2 ^ 320 + h3 * 2 ^ 384 ≡ 2 * w →
        (0 + l1 * 2 ^ 64 + l2 * 2 ^ 128 + l3 * 2 ^ 192) + (h0 + h1 * 2 ^ 64 + h2 * 2 ^ 128 + h3 * 2 ^ 192) * 2 ^ 256
        + (a0 * a0 + a1 * a1 * 2 ^ 128 + a2 * a2 * 2 ^ 256 + a3 * a3 * 2 ^ 384)
        ≡ (a0 + a1 * 2 ^ 64 + a2 * 2 ^ 128 + a3 * 2 ^ 192) * (a0 + a1 * 2 ^ 64 + a2 * 2 ^ 128 + a3 * 2 ^ 192)
    crossed_square a0 a1 a2 a3 w l1 l2 l3 h0 h1 h2 h3 e f = omega arith

-- the squares of two words added to four words
pub squares_added : (a0 a1 w0 w1 w2 w3 l0 l1 l2 l3 c c0 c1 c2 c3 : ℕ) →
    l0 + c0 * 2 ^ 64 ≡ a0 * a0 + c + w0 →
    l1 + c1 * 2 ^ 64 ≡ w1 + 0 + c0 →
    l2 + c2 * 2 ^ 64 ≡ a1 * a1 + c1 + w2 →
    l3 + c3 * 2 ^ 64 ≡ w3 + 0 + c2 →
    (l0 + l1 * 2 ^ 64 + l2 * 2 ^ 128 + l3 * 2 ^ 192) + c3 * 2 ^ 256
    ≡ (w0 + w1 * 2 ^ 64 + w2 * 2 ^ 128 + w3 * 2 ^ 192) + c + (a0 * a0 + a1 * a1 * 2 ^ 128)
squares_added a0 a1 w0 w1 w2 w3 l0 l1 l2 l3 c c0 c1 c2 c3 e0 e1 e2 e3 = omega arith

-- the low and the high half
pub squares_total : (a0 a1 a2 a3 low high wl wh c carry : ℕ) →
    low + c * 2 ^ 256 ≡ wl + 0 + (a0 * a0 + a1 * a1 * 2 ^ 128) →
    high + carry * 2 ^ 256 ≡ wh + c + (a2 * a2 + a3 * a3 * 2 ^ 128) →
    low + (high + carry * 2 ^ 256) * 2 ^ 256 ≡ wl + wh * 2 ^ 256 + (a0 * a0 + a1 * a1 * 2 ^ 128 + a2 * a2 * 2 ^ 256 + a3 * a3 * 2 ^ 384)
squares_total a0 a1 a2 a3 low high wl wh c carry e f =
    let g : (high + carry * 2 ^ 256) * 2 ^ 256 ≡ (wh + c + (a2 * a2 + a3 * a3 * 2 ^ 128)) * 2 ^ 256 = ap (λ v. v * 2 ^ 256) f in
    ap (λ v. low + v) g ∙ halves_total low wl wh c (a0 * a0 + a1 * a1 * 2 ^ 128) (a2 * a2) (a3 * a3) e
  where
    halves_total : (low wl wh c s a b : ℕ) → low + c * 2 ^ 256 ≡ wl + 0 + s → low + (wh + c + (a + b * 2 ^ 128)) * 2 ^ 256 ≡ wl + wh * 2 ^ 256 + (s + a * 2 ^ 256 + b * 2 ^ 384)
    halves_total low wl wh c s a b e = omega arith

-- a square has room in eight words; w is 2 ^ 256
pub no_carry : (w a low high carry : ℕ) → a < w → low + (high + carry * w) * w ≡ a * a → low + high * w ≡ a * a
no_carry w a low high zero h e = let g : high + 0 * w ≡ high = omega arith in ap (λ v. low + v * w) (sym g) ∙ e
no_carry w a low high (suc carry) h e =
    let aw : a * a ≤ w * a = mul-le-mul_right a (omega arith) in
    let less : w * (a + 1) ≤ w * w = mul-le-mul_left w (omega arith) in
    let more : low + (high + suc carry * w) * w ≡ w * w + (low + high * w + carry * (w * w)) = omega arith in
    absurd (omega arith)

-- four rounds divide by 2 ^ 256
pub rounds_total : (t p m0 m1 m2 m3 t1 t2 t3 t4 : ℕ) →
    t1 * 2 ^ 64 ≡ t + m0 * p →
    t2 * 2 ^ 64 ≡ t1 + m1 * p →
    t3 * 2 ^ 64 ≡ t2 + m2 * p →
    t4 * 2 ^ 64 ≡ t3 + m3 * p →
    t4 * 2 ^ 256 ≡ t + (m0 + m1 * 2 ^ 64 + m2 * 2 ^ 128 + m3 * 2 ^ 192) * p
rounds_total t p m0 m1 m2 m3 t1 t2 t3 t4 e1 e2 e3 e4 = omega arith

-- the multiple of p that four rounds add is below p * 2 ^ 256
pub factors_below : (p m0 m1 m2 m3 : ℕ) → m0 < 2 ^ 64 → m1 < 2 ^ 64 → m2 < 2 ^ 64 → m3 < 2 ^ 64 →
    (m0 + m1 * 2 ^ 64 + m2 * 2 ^ 128 + m3 * 2 ^ 192) * p ≤ p * 2 ^ 256
factors_below p m0 m1 m2 m3 h0 h1 h2 h3 =
    let m : ℕ = m0 + m1 * 2 ^ 64 + m2 * 2 ^ 128 + m3 * 2 ^ 192 in
    let e : m * p ≤ 2 ^ 256 * p = mul-le-mul_right p (omega arith) in
    omega arith

-- the number, by its words
pub value_is : (w : Words) → value w ≡ w.l0 + w.l1 * 2 ^ 64 + w.l2 * 2 ^ 128 + w.l3 * 2 ^ 192
unfolding value
value_is w = refl

-- the lowest word of t + m * p is 0 where that of the lowest words is
pub low_word : (low rest : ℕ) (t p : Words) (m : ℕ) → low < 2 ^ 64 → low + rest * 2 ^ 64 ≡ value t + m * value p → (m * p.l0 + t.l0) % 2 ^ 64 ≡ 0 → low ≡ 0
unfolding value
low_word low rest t p m h e z = split low rest t.l0 (t.l1 + t.l2 * 2 ^ 64 + t.l3 * 2 ^ 128) m p.l0 (p.l1 + p.l2 * 2 ^ 64 + p.l3 * 2 ^ 128) h (omega (arith, e)) z
  where
    split : (low rest t0 th m p0 ph : ℕ) → low < 2 ^ 64 → low + rest * 2 ^ 64 ≡ (t0 + th * 2 ^ 64) + m * (p0 + ph * 2 ^ 64) → (m * p0 + t0) % 2 ^ 64 ≡ 0 → low ≡ 0
    split low rest t0 th m p0 ph h e z = omega arith

-- without the lowest word, where it is 0
pub low_gone : (low rest s : ℕ) → low ≡ 0 → low + rest * 2 ^ 64 ≡ s → rest * 2 ^ 64 ≡ s
low_gone low rest s z e = omega arith

pub same_scaled : (r t p s : ℕ) → r % p ≡ t % p → (r * s) % p ≡ (t * s) % p
same_scaled r t p s h = sym (mul-mod_first r s p) ∙ ap (λ v. (v * s) % p) h ∙ mul-mod_first t s p

-- the remainder of what lies in the modulus, or once above it
pub mod_once : (x p r : ℕ) → x ≡ r + p → r < p → x % p ≡ r
mod_once x p r e h = ap (λ v. v % p) e ∙ add-mod_right r p ∙ mod-eq_of_lt h

pub same_product : (r t ab m p : ℕ) → r % p ≡ t % p → t * 2 ^ 256 ≡ ab + m * p → (r * 2 ^ 256) % p ≡ ab % p
same_product r t ab m p h e = same_scaled r t p (2 ^ 256) h ∙ ap (λ v. v % p) e ∙ add-mul-mod_self_right ab m p

pub from_bool_le : (b : Bool) → from_bool b ≤ 1
from_bool_le true = omega arith
from_bool_le false = omega arith

pub from_true : (b : Bool) → b ≡ true → from_bool b ≡ 1
from_true b h = ap from_bool h

pub from_false : (b : Bool) → b ≡ false → from_bool b ≡ 0
from_false b h = ap from_bool h

-- the sum of what four rounds leave and the high words
pub rounds_added : (r low high k : ℕ) → r * 2 ^ 256 ≡ low + k → (r + high) * 2 ^ 256 ≡ low + high * 2 ^ 256 + k
rounds_added r low high k e = omega arith

-- the remainder is one, whether or not p was subtracted
pub reduced_same : (borrow : Bool) (t less p r : ℕ) → less + p ≡ t + from_bool borrow * 2 ^ 256 → (borrow ≡ true → r ≡ t) → (borrow ≡ false → r ≡ less) → r % p ≡ t % p
reduced_same true t less p r e f g = ap (λ v. v % p) (f refl)
reduced_same false t less p r e f g =
    let whole : t ≡ less + p = omega (arith, e) in
    ap (λ v. v % p) (g refl) ∙ sym (ap (λ v. v % p) whole ∙ add-mod_right less p)

-- the difference, whether or not p was added
pub difference_same : (borrow carry : Bool) (a b p d more r : ℕ) → a < p → b < p → more < 2 ^ 256 →
    d + b ≡ a + from_bool borrow * 2 ^ 256 → more + from_bool carry * 2 ^ 256 ≡ d + p → (borrow ≡ true → r ≡ more) → (borrow ≡ false → r ≡ d) → (r + b) % p ≡ a
difference_same true carry a b p d more r ha hb hm e f g h =
    let one : r ≡ more = g refl in
    mod_once _ p _ (omega (arith, from_bool_le carry, e, f, one)) ha
difference_same false carry a b p d more r ha hb hm e f g h =
    let one : r ≡ d = h refl in
    let total : r + b ≡ a = omega (arith, e, one) in
    ap (λ v. v % p) total ∙ mod-eq_of_lt ha

-- what is left after four rounds, with the high words, is below twice the modulus
pub sum_below : (x r p t k : ℕ) → x ≡ r → r * 2 ^ 256 ≡ t + k → t < p * 2 ^ 256 → k ≤ p * 2 ^ 256 → x < 2 * p
sum_below x r p t k e f h l = omega arith

-- eight words, by their halves
pub wide_is : (t : Wide) → wide t ≡ value t.low + value t.high * 2 ^ 256
unfolding wide
wide_is t = refl

-- a product of a number in four words and one below p
pub product_below : (a b p t : ℕ) → a < 2 ^ 256 → b < p → t ≡ a * b → t < p * 2 ^ 256
product_below a b p t ha hb e =
    let ab : a * b ≤ 2 ^ 256 * b = mul-le-mul_right b (omega arith) in
    omega arith

-- a bit times a number, word by word
pub bit_times : (b l0 l1 l2 l3 : ℕ) → l0 * b + l1 * b * 2 ^ 64 + l2 * b * 2 ^ 128 + l3 * b * 2 ^ 192 ≡ b * (l0 + l1 * 2 ^ 64 + l2 * 2 ^ 128 + l3 * 2 ^ 192)
bit_times b l0 l1 l2 l3 = omega arith

-- whether a number is odd, its lowest word says
pub lowest_bit : (w : Words) → value w % 2 ≡ w.l0 % 2
unfolding value
lowest_bit w = omega arith

-- half of an even number, or of an odd one and p
pub halved_same : (a p b t r : ℕ) → a < p → p % 2 ≡ 1 → a % 2 ≡ b → t ≡ a + b * p → r ≡ t / 2 → (r * 2) % p ≡ a
halved_same a p b t r h o e f g = elim (cases_eq b 0) [
  | inl z ↦
      let none : b * p ≡ 0 * p = ap (λ v. v * p) z in
      let twice : r * 2 ≡ a = omega (arith, none) in
      ap (λ v. v % p) twice ∙ mod-eq_of_lt h
  | inr n ↦
      let one : b ≡ 1 = omega arith in
      let once : b * p ≡ 1 * p = ap (λ v. v * p) one in
      mod_once (r * 2) p a (omega (arith, once)) h
]

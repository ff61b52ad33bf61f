use Rattle.std.proofs.Common.{◌≡◌, ◌≢◌, ℕ, zero, suc, ◌+◌, ◌-◌, ◌*◌, ◌%◌, ◌^◌, ◌<◌, ◌⊎◌, inl, inr, ap, sym, ◌∙◌, refl, Bool, true, false, eqb, arith}
use Rattle.std.proofs.lemmas.Bool.{cases_eq}
use Rattle.std.proofs.lemmas.Bool.Decides.{eqb_tells}
use mathlib.Core.Bool.{beq}
use Rattle.std.specs.Int.{from_bool}
use Rattle.warg_modular.specs.declared.words.Words.{Words}
use Rattle.std.proofs.lemmas.Nat.{pow-add}
use Rattle.std.proofs.Math.Nat.{mod-eq_of_lt, mod-lt, pow-suc, pow-zero}
use Rattle.warg_primes.proofs.Congruent.{Same, same, same_of, same_mod, back, then, both_times, both_plus, same_more}
use Rattle.warg_primes.proofs.Powers.{same_pow, pow_times}
use Rattle.warg_primes.proofs.Fermat.{fermat}
use Rattle.warg_modular.specs.Value.{value}
use Rattle.warg_curve.specs.Field.{prime, plus, minus, times}
use Rattle.warg_curve.proofs.CurveFacts.{low, low_is, prime_pos, whole, minus_as, one_number, zero_factor, zero_mod}
use Rattle.warg_curve.proofs.Inverses.{has_inverses, prime_is_prime}

pub root_exponent : 4 * value record { l0 = 0; l1 = 1073741824; l2 = 4611686018427387904; l3 = 4611686017353646080 } ≡ prime + 1
unfolding value prime
root_exponent = refl

zero_pow : (k : ℕ) → 0 < k → 0 ^ k ≡ 0
zero_pow zero h = absurd (omega arith)
zero_pow (suc k) h = pow-suc 0 k ∙ (let e : 0 ^ k * 0 ≡ 0 = omega arith in e)

square_is : (t : ℕ) → t ^ 2 ≡ t * t
square_is t = pow-suc t 1 ∙ ap (λ v. v * t) (pow-suc t 0 ∙ ap (λ v. v * t) (pow-zero t)) ∙ (let e : 1 * t * t ≡ t * t = omega arith in e)

-- a number that is a square has the root that the power gives
pub root_of : (a t y e : ℕ) → a < prime → t < prime → times t t ≡ a → 4 * e ≡ prime + 1 → y ≡ (a ^ e) % prime → times y y ≡ a
root_of a t y e ha ht et ee ey = elim (cases_eq t 0) [
  | inl z ↦
      let a0 : a ≡ 0 = sym et ∙ ap (λ v. times v v) z ∙ ap (λ v. v % prime) (let o : 0 * 0 ≡ 0 = omega arith in o) ∙ zero_mod in
      let pos : 0 < e = omega arith in
      let y0 : y ≡ 0 = ey ∙ ap (λ v. (v ^ e) % prime) a0 ∙ ap (λ v. v % prime) (zero_pow e pos) ∙ zero_mod in
      ap (λ v. times v v) y0 ∙ ap (λ v. v % prime) (let o : 0 * 0 ≡ 0 = omega arith in o) ∙ zero_mod ∙ sym a0
  | inr n ↦
      let at : Same prime a (t ^ 2) = then (back (same_of _ _ et)) (then (whole (t * t)) (same_of _ _ (sym (square_is t)))) in
      let ye : Same prime y (t ^ (2 * e)) = then (same_mod prime y (a ^ e) ey) (then (same_pow prime a (t ^ 2) at e) (same_of _ _ (sym (pow_times t 2 e)))) in
      let sum : 2 * e + 2 * e ≡ prime - 1 + 2 = (let l : 0 < prime = prime_pos in omega arith) in
      let yy : Same prime (y * y) (t ^ (prime - 1) * t ^ 2) = then (both_times ye ye) (same_of _ _ (sym (pow-add t (2 * e) (2 * e)) ∙ ap (λ v. t ^ v) sum ∙ pow-add t (prime - 1) 2)) in
      let one : Same prime (t ^ (prime - 1)) 1 = fermat prime t prime_is_prime ht n in
      let fin : Same prime (y * y) a = then yy (then (both_times one (back at)) (same_of _ _ (let o : 1 * a ≡ a = omega arith in o))) in
      fin.is ∙ mod-eq_of_lt ha
]

gone : (a b : ℕ) → Same prime (a + low * b + b) a
unfolding prime
gone a b = let e : a + low * b + b ≡ a + (low + 1) * b = omega arith in same_more _ _ b e

gone_all : (v k w : ℕ) → v ≡ w + (low + 1) * k → Same prime v w
unfolding prime
gone_all v k w e = same_more _ _ k e

negated : (t y : ℕ) → Same prime (t + y) 0 → Same prime (minus 0 y) (0 + low * y) → Same prime t (minus 0 y)
negated t y s m =
    let e : t + low * y + y ≡ t + y + low * y = omega arith in
    then (back (gone t y)) (then (same_of _ _ e) (then (both_plus s (same (low * y))) (back m)))

equal : (t y : ℕ) → Same prime (t + low * y) 0 → Same prime t y
equal t y m = then (back (gone t y)) (then (both_plus m (same y)) (same_of _ _ (let e : 0 + y ≡ y = omega arith in e)))

factors : (t y : ℕ) → times y y ≡ times t t → Same prime ((t + low * y) * (t + y)) 0
factors t y e =
    let s : Same prime (t * t) (y * y) = record { is = sym e } in
    let e1 : (t + low * y) * (t + y) ≡ t * t + low * (y * y) + (low + 1) * (t * y) = omega arith in
    let e2 : y * y + low * (y * y) ≡ 0 + (low + 1) * (y * y) = omega arith in
    then (gone_all _ (t * y) _ e1) (then (both_plus s (same (low * (y * y)))) (gone_all _ (y * y) 0 e2))

-- two roots of one number are each other, or each other's negatives
pub two_roots : (y t : ℕ) → y < prime → t < prime → times y y ≡ times t t → (t ≡ y) ⊎ (t ≡ minus 0 y)
two_roots y t hy ht e = elim (cases_eq (plus t y) 0) [
  | inl z ↦
      let s : Same prime (t + y) 0 = record { is = z ∙ sym zero_mod } in
      let m : Same prime (minus 0 y) (0 + low * y) = minus_as 0 y hy in
      let l : prime ≡ low + 1 = low_is in
      inr (one_number t (minus 0 y) ht (mod-lt (0 + (prime - y)) prime_pos) (negated t y s m))
  | inr n ↦ elim (cases_eq (minus t y) 0) [
    | inl z ↦
        let m : Same prime (t + low * y) 0 = then (back (minus_as t y hy)) (same_of _ _ z) in
        inl (one_number t y ht hy (equal t y m))
    | inr o ↦
        let product : times (minus t y) (plus t y) ≡ 0 =
        let s : Same prime (minus t y * plus t y) 0 = then (both_times (minus_as t y hy) (whole (t + y))) (factors t y e) in
        s.is ∙ zero_mod in
        absurd (zero_factor has_inverses (minus t y) (plus t y) (mod-lt (t + (prime - y)) prime_pos) (mod-lt (t + y) prime_pos) o n product)
  ]
]

-- the lowest bit
pub parity_is : (w : Words) (n : ℕ) → value w ≡ n → n % 2 ≡ from_bool (eqb (w.l0 % 2) 1)
unfolding value
parity_is w n e =
    let m : n % 2 ≡ w.l0 % 2 = omega arith in
    elim (eqb_tells (w.l0 % 2) 1) [
      | inl h ↦ m ∙ h.1 ∙ sym (ap from_bool h.0)
      | inr h ↦
          let z : w.l0 % 2 ≡ 0 = (let d : w.l0 % 2 ≢ 1 = h.1 in omega arith) in
          m ∙ z ∙ sym (ap from_bool h.0)
    ]

pub negative_square : (y z n : ℕ) → y < prime → n ≡ 0 → z ≡ minus n y → times z z ≡ times y y
negative_square y z n hy en e =
    let s : Same prime z (0 + low * y) = then (same_of _ _ (e ∙ ap (λ v. minus v y) en)) (minus_as 0 y hy) in
    let q : ℕ = y * y in
    let e1 : (0 + low * y) * (0 + low * y) + (low + 1) * q ≡ q + (low + 1) * (low * q) = omega arith in
    let l : Same prime ((0 + low * y) * (0 + low * y) + (low + 1) * q) ((0 + low * y) * (0 + low * y)) = gone_all _ q _ refl in
    let r : Same prime ((0 + low * y) * (0 + low * y) + (low + 1) * q) q = gone_all _ (low * q) _ e1 in
    let p : Same prime (z * z) (y * y) = then (both_times s s) (then (back l) r) in
    p.is

byte_one : (a b : Bool) → from_bool a ≡ from_bool b → a ≡ b
byte_one true true e = refl
byte_one false false e = refl
byte_one true false e = absurd (omega arith)
byte_one false true e = absurd (omega arith)

-- neither root has the parity
pub no_parity : (y z n : ℕ) (a b c : Bool) → y < prime → n ≡ 0 → z ≡ minus n y → y % 2 ≡ from_bool a → z % 2 ≡ from_bool b → (a ≡ c → ⊥) → (b ≡ c → ⊥) →
    (t : ℕ) → t < prime → times t t ≡ times y y → t % 2 ≡ from_bool c → ⊥
no_parity y z n a b c hy en e ea eb na nb t ht et ec = elim (two_roots y t hy ht (sym et)) [
  | inl h ↦ na (byte_one a c (sym ea ∙ ap (λ v. v % 2) (sym h) ∙ ec))
  | inr h ↦ nb (byte_one b c (sym eb ∙ ap (λ v. v % 2) (e ∙ ap (λ v. minus v y) en ∙ sym h) ∙ ec))
]

pub same_bool : (a b : Bool) → beq a b ≡ true → a ≡ b
same_bool true true h = refl
same_bool false false h = refl
same_bool true false h = absurd (cc)
same_bool false true h = absurd (cc)

pub other_bool : (a b : Bool) → beq a b ≡ false → a ≡ b → ⊥
other_bool true true h e = absurd (cc)
other_bool false false h e = absurd (cc)
other_bool true false h e = absurd (cc)
other_bool false true h e = absurd (cc)

use Rattle.std.proofs.Common.{◌≡◌, ℕ, ◌+◌, ◌-◌, ◌*◌, ◌%◌, ◌<◌, ◌^◌, ap, sym, ◌∙◌, subst, refl, lit<, arith}
use Rattle.std.proofs.lemmas.Nat.{mul-mod_first, mul-mod_second, mul-mod}
use Rattle.std.proofs.Math.Nat.{add-mod_right, mod-eq_of_lt, add-mod, mod-add-mod, mul-one, mod-lt, mod-mod}
use Rattle.warg_modular.proofs.Rounds.{same_scaled}
use Rattle.warg_modular.specs.Value.{value}
use Rattle.warg_curve.specs.Field.{prime, plus, minus, times}
use Rattle.warg_p256.specs.Elements.{shrink, number}
use Rattle.warg_curve.specs.Order.{order}
use Rattle.warg_modular.specs.declared.words.Words.{Words}

-- x * (r * s) is x, where r * s is 1
pub strip : (x r s p : ℕ) → (r * s) % p ≡ 1 → (x * (r * s)) % p ≡ x % p
strip x r s p h = sym (mul-mod_second x (r * s) p) ∙ ap (λ v. (x * v) % p) h ∙ ap (λ v. v % p) (mul-one x)

pub times_of : (w a b p r s : ℕ) → (r * s) % p ≡ 1 → (w * r) % p ≡ (a * b) % p → (w * s) % p ≡ (((a * s) % p) * ((b * s) % p)) % p
times_of w a b p r s h e =
    let e1 : (w * s) * (r * s) ≡ (w * r) * (s * s) = omega arith in
    let e2 : (a * b) * (s * s) ≡ (a * s) * (b * s) = omega arith in
    sym (strip (w * s) r s p h) ∙ ap (λ v. v % p) e1 ∙ same_scaled (w * r) (a * b) p (s * s) e ∙ ap (λ v. v % p) e2 ∙ mul-mod (a * s) (b * s) p

plus_of : (w a b p s : ℕ) → w % p ≡ (a + b) % p → (w * s) % p ≡ ((a * s) % p + (b * s) % p) % p
plus_of w a b p s e =
    let e1 : (a + b) * s ≡ a * s + b * s = omega arith in
    same_scaled w (a + b) p s e ∙ ap (λ v. v % p) e1 ∙ add-mod (a * s) (b * s) p

-- a number d with d + b equal to a is a - b
minus_from : (d a b p : ℕ) → d < p → b < p → (d + b) % p ≡ a % p → d ≡ (a + (p - b)) % p
minus_from d a b p hd hb e =
    let e1 : (d + b) + (p - b) ≡ d + p = omega arith in
    sym (sym (mod-add-mod a p (p - b)) ∙ ap (λ v. (v + (p - b)) % p) (sym e) ∙ mod-add-mod (d + b) p (p - b) ∙ ap (λ v. v % p) e1 ∙ add-mod_right d p ∙ mod-eq_of_lt hd)

pub p_is : value record { l0 = 18446744073709551615; l1 = 4294967295; l2 = 0; l3 = 18446744069414584321 } ≡ prime
unfolding value prime
p_is = refl

pub one_is : value record { l0 = 1; l1 = 0; l2 = 0; l3 = 0 } ≡ 1
unfolding value
one_is = refl

pub shrinks : (2 ^ 256 * shrink) % prime ≡ 1
unfolding shrink prime
shrinks = refl

pub prime_pos : 0 < prime
unfolding prime
prime_pos = lit< tt

pub number_times : (r a b : Words) (q : ℕ) → q ≡ prime → (value r * 2 ^ 256) % q ≡ (value a * value b) % q → number r ≡ times (number a) (number b)
unfolding number
number_times r a b q e h =
    times_of (value r) (value a) (value b) prime (2 ^ 256) shrink shrinks (subst (λ m. (value r * 2 ^ 256) % m ≡ (value a * value b) % m) e h)

pub number_plus : (r a b : Words) (q : ℕ) → q ≡ prime → value r ≡ (value a + value b) % q → number r ≡ plus (number a) (number b)
unfolding number
number_plus r a b q e h =
    let h2 : value r ≡ (value a + value b) % prime = subst (λ m. value r ≡ (value a + value b) % m) e h in
    plus_of (value r) (value a) (value b) prime shrink (ap (λ v. v % prime) h2 ∙ mod-mod (value a + value b) prime)

pub number_below : (a : Words) → number a < prime
unfolding number
number_below a = mod-lt (value a * shrink) prime_pos

plus_back : (w a b : Words) → value w % prime ≡ (value a + value b) % prime → (number a + number b) % prime ≡ number w % prime
unfolding number
plus_back w a b e = sym (mod-mod (value w * shrink) prime ∙ plus_of (value w) (value a) (value b) prime shrink e)

pub number_minus : (r a b : Words) (q : ℕ) → q ≡ prime → value a < prime → (value r + value b) % q ≡ value a → number r ≡ minus (number a) (number b)
number_minus r a b q e ha h =
    let h2 : (value r + value b) % prime ≡ value a = subst (λ m. (value r + value b) % m ≡ value a) e h in
    let back : (value a) % prime ≡ (value r + value b) % prime = mod-eq_of_lt ha ∙ sym h2 in
    minus_from (number r) (number a) (number b) prime (number_below r) (number_below b) (plus_back a r b back)

-- the words are known from the number
pub value_of : (a : Words) → value a < prime → value a ≡ (number a * 2 ^ 256) % prime
unfolding number
value_of a h =
    let e : value a * shrink * 2 ^ 256 ≡ value a * (2 ^ 256 * shrink) = omega arith in
    sym (mul-mod_first (value a * shrink) (2 ^ 256) prime ∙ ap (λ v. v % prime) e ∙ strip (value a) (2 ^ 256) shrink prime shrinks ∙ mod-eq_of_lt h)

zero_mod : (0 * 2 ^ 256) % prime ≡ 0
unfolding prime
zero_mod = refl

pub zero_from_number : (a : Words) → value a < prime → number a ≡ 0 → value a ≡ 0
zero_from_number a h e = value_of a h ∙ ap (λ v. (v * 2 ^ 256) % prime) e ∙ zero_mod

pub number_from_zero : (a : Words) → value a ≡ 0 → number a ≡ 0
unfolding number prime shrink
number_from_zero a e = ap (λ v. (v * shrink) % prime) e

pub same_from_number : (a b : Words) → value a < prime → value b < prime → number a ≡ number b → value a ≡ value b
same_from_number a b ha hb e = value_of a ha ∙ ap (λ v. (v * 2 ^ 256) % prime) e ∙ sym (value_of b hb)

pub number_from_same : (a b : Words) → value a ≡ value b → number a ≡ number b
unfolding number
number_from_same a b e = ap (λ v. (v * shrink) % prime) e

pub value_from_montgomery : (r a : Words) (q : ℕ) (o : ℕ) → q ≡ prime → o ≡ 1 → value r < q → (value r * 2 ^ 256) % q ≡ (value a * o) % q → value r ≡ number a
unfolding number
value_from_montgomery r a q o e one below h =
    let h2 : (value r * 2 ^ 256) % prime ≡ (value a * o) % prime = subst (λ m. (value r * 2 ^ 256) % m ≡ (value a * o) % m) e h in
    let h3 : value r < prime = subst (λ m. value r < m) e below in
    let e1 : value r * (2 ^ 256 * shrink) ≡ value r * 2 ^ 256 * shrink = omega arith in
    let e2 : (value a * 1) * shrink ≡ value a * shrink = omega arith in
    sym (mod-eq_of_lt h3) ∙ sym (strip (value r) (2 ^ 256) shrink prime shrinks) ∙ ap (λ v. v % prime) e1
    ∙ same_scaled (value r * 2 ^ 256) (value a * o) prime shrink h2 ∙ ap (λ v. ((value a * v) * shrink) % prime) one ∙ ap (λ v. v % prime) e2

-- the square of 2 ^ 256, for the way into the form
square_shrinks : (value record { l0 = 3; l1 = 18446744056529682431; l2 = 18446744073709551614; l3 = 21474836477 } * (shrink * shrink)) % prime ≡ 1
unfolding value shrink prime
square_shrinks = refl

pub number_to_montgomery : (r a : Words) (q : ℕ) → q ≡ prime →
    (value r * 2 ^ 256) % q ≡ (value a * value record { l0 = 3; l1 = 18446744056529682431; l2 = 18446744073709551614; l3 = 21474836477 }) % q → number r ≡ value a % prime
unfolding number
number_to_montgomery r a q e h =
    let s : ℕ = value record { l0 = 3; l1 = 18446744056529682431; l2 = 18446744073709551614; l3 = 21474836477 } in
    let h2 : (value r * 2 ^ 256) % prime ≡ (value a * s) % prime = subst (λ m. (value r * 2 ^ 256) % m ≡ (value a * s) % m) e h in
    let e1 : (value r * shrink) * (2 ^ 256 * shrink) ≡ (value r * 2 ^ 256) * (shrink * shrink) = omega arith in
    let e2 : (value a * s) * (shrink * shrink) ≡ value a * (s * (shrink * shrink)) = omega arith in
    sym (strip (value r * shrink) (2 ^ 256) shrink prime shrinks) ∙ ap (λ v. v % prime) e1 ∙ same_scaled (value r * 2 ^ 256) (value a * s) prime (shrink * shrink) h2
    ∙ ap (λ v. v % prime) e2 ∙ strip (value a) s (shrink * shrink) prime square_shrinks

pub n_is : value record { l0 = 17562291160714782033; l1 = 13611842547513532036; l2 = 18446744073709551615; l3 = 18446744069414584320 } ≡ order
unfolding value order
n_is = refl

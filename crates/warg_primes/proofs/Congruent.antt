use Rattle.std.proofs.Common.{◌≡◌, ℕ, ◌+◌, ◌-◌, ◌*◌, ◌%◌, ◌<◌, ap, sym, ◌∙◌, refl, subst, arith}
use Rattle.std.proofs.lemmas.Nat.{mul-mod}
use Rattle.std.proofs.Math.Nat.{add-mod, mod-mod, add-mul-mod_self_left, mod-lt}

-- a and b are one number modulo p
pub record Same (p a b : ℕ) : Type 0 where
  pub is : a % p ≡ b % p

pub same : {p : ℕ} (a : ℕ) → Same p a a
same a = record { is = refl }

pub same_of : {p : ℕ} (a b : ℕ) → a ≡ b → Same p a b
same_of {p = p} a b e = record { is = ap (λ v. v % p) e }

-- what is reduced is the same as before
pub same_mod : (p a b : ℕ) → a ≡ b % p → Same p a b
same_mod p a b e = record { is = ap (λ v. v % p) e ∙ mod-mod b p }

pub back : {p a b : ℕ} → Same p a b → Same p b a
back h = record { is = sym h.is }

pub then : {p a b c : ℕ} → Same p a b → Same p b c → Same p a c
then h k = record { is = h.is ∙ k.is }

pub both_times : {p a b c d : ℕ} → Same p a b → Same p c d → Same p (a * c) (b * d)
both_times {p = p} {a = a} {b = b} {c = c} {d = d} h k =
    record { is = mul-mod a c p ∙ ap (λ v. (v * (c % p)) % p) h.is ∙ ap (λ v. ((b % p) * v) % p) k.is ∙ sym (mul-mod b d p) }

pub both_plus : {p a b c d : ℕ} → Same p a b → Same p c d → Same p (a + c) (b + d)
both_plus {p = p} {a = a} {b = b} {c = c} {d = d} h k =
    record { is = add-mod a c p ∙ ap (λ v. (v + c % p) % p) h.is ∙ ap (λ v. (b % p + v) % p) k.is ∙ sym (add-mod b d p) }

-- a multiple of the modulus more is the same
pub same_more : {p : ℕ} (a b k : ℕ) → a ≡ b + p * k → Same p a b
same_more {p = p} a b k e = record { is = ap (λ v. v % p) e ∙ add-mul-mod_self_left b p k }

-- less b is more by (p - 1) * b
pub minus_is : (p q a b : ℕ) → p ≡ q + 1 → b < p → Same p (a + (p - b)) (a + q * b)
minus_is p q a b e h =
    let m : p * b ≡ (q + 1) * b = ap (λ v. v * b) e in
    let e1 : (a + (p - b)) + p * b ≡ (a + q * b) + p * 1 = omega arith in
    then (back (same_more ((a + (p - b)) + p * b) (a + (p - b)) b refl)) (same_more ((a + (p - b)) + p * b) (a + q * b) 1 e1)

-- what is a remainder is below the modulus
pub below : (q v w : ℕ) → v ≡ w % (q + 1) → v < q + 1
below q v w e = let h : w % (q + 1) < q + 1 = mod-lt w (omega arith) in subst (λ n. n < q + 1) (sym e) h

-- a difference, as a sum
pub less_of : (q v a b : ℕ) → v ≡ (a + (q + 1 - b)) % (q + 1) → b < q + 1 → Same (q + 1) v (a + q * b)
less_of q v a b e h = then (same_mod (q + 1) v (a + (q + 1 - b)) e) (minus_is (q + 1) q a b refl h)

pub less : (q v a b w : ℕ) → v ≡ (a + (q + 1 - b)) % (q + 1) → b ≡ w % (q + 1) → Same (q + 1) v (a + q * b)
less q v a b w e h = less_of q v a b e (below q b w h)

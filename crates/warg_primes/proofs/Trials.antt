use Rattle.std.proofs.Common.{◌≡◌, ℕ, zero, suc, ◌+◌, ◌*◌, ◌%◌, ◌<◌, inl, inr, Bool, true, false, eqb, ap, sym, ◌∙◌, refl, arith}
use Rattle.std.proofs.lemmas.Bool.{cases_eq, eq-eqb}
use Rattle.std.proofs.Math.Nat.{mul-mod_left}
use Rattle.warg_primes.proofs.Divisors.{Divides, IsPrime}
use Rattle.warg_primes.proofs.Pocklington.{prime_from}

-- whether no number from 2 to f + 1 divides n
unfoldable pub no_divisor : ℕ → ℕ → Bool
no_divisor n zero = true
no_divisor n (suc f) = elim (eqb (n % (f + 2)) 0) [ true ↦ false | false ↦ no_divisor n f ]

tested : (b x : Bool) → elim b as (λ v. Bool) [ true ↦ false | false ↦ x ] ≡ true → (b ≡ false) × (x ≡ true)
tested true x h = absurd (cc)
tested false x h = (refl, h)

none_divides : (n f d : ℕ) → no_divisor n f ≡ true → Divides d n → 1 < d → f + 1 < d
unfolding no_divisor
none_divides n zero d h k l = omega arith
none_divides n (suc f) d h k l =
    let t = tested (eqb (n % (f + 2)) 0) (no_divisor n f) h in
    let rest : f + 1 < d = none_divides n f d t.1 k l in
    elim (cases_eq d (f + 2)) [
      | inl e ↦
          let z : n % d ≡ 0 = ap (λ v. v % d) k.is ∙ mul-mod_left k.times d in
          let z2 : n % (f + 2) ≡ 0 = ap (λ v. n % v) (sym e) ∙ z in
          let b : eqb (n % (f + 2)) 0 ≡ true = eq-eqb (n % (f + 2)) 0 z2 in
          let c : eqb (n % (f + 2)) 0 ≡ false = t.0 in
          absurd (cc)
      | inr o ↦ omega arith
    ]

pub prime_by_trials : (n f : ℕ) → 1 < n → n < (f + 2) * (f + 2) → no_divisor n f ≡ true → IsPrime n
prime_by_trials n f h b t = prime_from n (f + 1) h (let e : f + 1 + 1 ≡ f + 2 = omega arith in let e2 : (f + 1 + 1) * (f + 1 + 1) ≡ (f + 2) * (f + 2) = omega arith in omega arith) (λ d k l. none_divides n f d t k l)

use Rattle.std.proofs.Common.{◌≡◌, ℕ, ◌+◌, ◌*◌, ◌%◌, ◌^◌, ◌<◌}
use Rattle.warg_primes.proofs.Congruent.{same, same_of, back, then, both_times}
use Rattle.warg_primes.proofs.Pocklington.{Witness}
use Rattle.warg_primes.proofs.PowerModulo.{power_modulo, power_is}

-- a witness, from what can be computed
pub witness : (b n q r a w : ℕ) → n ≡ q * r → n < 2 ^ b → r < 2 ^ b → power_modulo b a n (n + 1) ≡ 1 →
    (power_modulo b a r (n + 1) * w) % (n + 1) ≡ (w + 1) % (n + 1) → Witness n q r a w
witness b n q r a w e hn hr one other = record {
  split = e;
  one = then (back (power_is b a n (n + 1) hn)) (same_of _ _ one);
  other = then (both_times (back (power_is b a r (n + 1) hr)) (same w)) record { is = other };
}

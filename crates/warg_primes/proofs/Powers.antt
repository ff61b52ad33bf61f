use Rattle.std.proofs.Common.{◌≡◌, ◌≢◌, ℕ, zero, suc, ◌+◌, ◌-◌, ◌*◌, ◌/◌, ◌%◌, ◌^◌, ◌<◌, ◌≤◌, ap, sym, ◌∙◌, arith}
use Rattle.std.proofs.lemmas.Nat.{pow-add}
use Rattle.std.proofs.Math.Nat.{mod-lt, mod-eq_of_lt, pow-zero, pow-suc, mul-suc, mul-zero}
use Rattle.warg_primes.proofs.Congruent.{Same, same, same_of, back, then, both_times, same_more}
use Rattle.warg_primes.proofs.Pigeons.{Twice, pigeons}
use Rattle.warg_primes.proofs.Divisors.{Divides, Mix}

pub same_pow : (p a b : ℕ) → Same p a b → (k : ℕ) → Same p (a ^ k) (b ^ k)
same_pow p a b h zero = same_of _ _ (pow-zero a ∙ sym (pow-zero b))
same_pow p a b h (suc k) = then (same_of _ _ (pow-suc a k)) (then (both_times (same_pow p a b h k) h) (same_of _ _ (sym (pow-suc b k))))

pub one_pow : (k : ℕ) → 1 ^ k ≡ 1
one_pow zero = pow-zero 1
one_pow (suc k) = pow-suc 1 k ∙ (let e : 1 ^ k ≡ 1 = one_pow k in omega arith)

pub pow_times : (a j k : ℕ) → a ^ (j * k) ≡ (a ^ j) ^ k
pow_times a j zero = ap (λ v. a ^ v) (mul-zero j) ∙ pow-zero a ∙ sym (pow-zero (a ^ j))
pow_times a j (suc k) = ap (λ v. a ^ v) (mul-suc j k) ∙ pow-add a (j * k) j ∙ ap (λ v. v * a ^ j) (pow_times a j k) ∙ sym (pow-suc (a ^ j) k)

-- a power that is 1, as often as wanted
pub one_times : (d a j k : ℕ) → Same d (a ^ j) 1 → Same d (a ^ (j * k)) 1
one_times d a j k h = then (same_of _ _ (pow_times a j k)) (then (same_pow d (a ^ j) 1 h k) (same_of _ _ (one_pow k)))

pub one_times_left : (d a j k : ℕ) → Same d (a ^ j) 1 → Same d (a ^ (k * j)) 1
one_times_left d a j k h = let e : k * j ≡ j * k = omega arith in then (same_of _ _ (ap (λ v. a ^ v) e)) (one_times d a j k h)

-- what holds modulo n holds modulo its divisors
pub same_below : (n d a b : ℕ) → 0 < n → Divides d n → Same n a b → Same d a b
same_below n d a b pos k h =
    let t : ℕ = k.times in
    let e : n ≡ t * d = k.is in
    let c : ℕ = a % n in
    let same_c : a % n ≡ b % n = h.is in
    let ea : a ≡ n * (a / n) + c = omega arith in
    let eb : b ≡ n * (b / n) + c = omega arith in
    let na : n * (a / n) ≡ t * d * (a / n) = ap (λ v. v * (a / n)) e in
    let nb : n * (b / n) ≡ t * d * (b / n) = ap (λ v. v * (b / n)) e in
    let fa : a ≡ c + d * (t * (a / n)) = omega arith in
    let fb : b ≡ c + d * (t * (b / n)) = omega arith in
    then (same_more a c (t * (a / n)) fa) (back (same_more b c (t * (b / n)) fb))

-- 1 is not 0 modulo a number above 1
pub one_not_zero : (d : ℕ) → 1 < d → Same d 1 0 → ⊥
one_not_zero d h s =
    let a : 1 % d ≡ 1 = mod-eq_of_lt h in
    let b : 0 % d ≡ 0 = mod-eq_of_lt (omega arith) in
    let e : 1 % d ≡ 0 % d = s.is in
    omega arith

-- two powers that are 1, of numbers that have 1 as a mix
pub one_by_mix : (d b i j : ℕ) → Mix i j 1 → Same d (b ^ i) 1 → Same d (b ^ j) 1 → Same d b 1
one_by_mix d b i j m hi hj =
    let e : b ^ (m.u * i) ≡ b ^ (m.v * j) * b = ap (λ v. b ^ v) m.is ∙ pow-add b (m.v * j) 1 ∙ ap (λ v. b ^ (m.v * j) * v) (pow-suc b 0 ∙ ap (λ v. v * b) (pow-zero b) ∙ (let o : 1 * b ≡ b = omega arith in o)) in
    let o : 1 * b ≡ b = omega arith in
    let l : Same d (b ^ (m.u * i)) 1 = one_times_left d b i m.u hi in
    let r : Same d (b ^ (m.v * j) * b) b = then (both_times (one_times_left d b j m.v hj) (same b)) (same_of _ _ o) in
    then (back r) (then (same_of _ _ (sym e)) l)

-- a power below one that is 1 is not 0
unit : (a n d i : ℕ) → 1 < d → Same d (a ^ n) 1 → i ≤ n → a ^ i % d ≢ 0
unit a n d i h s l e =
    let k : ℕ = n - i in
    let en : n ≡ i + k = omega arith in
    let z : Same d (a ^ i) 0 = record { is = e ∙ sym (mod-eq_of_lt (omega arith)) } in
    let zk : 0 * a ^ k ≡ 0 = omega arith in
    one_not_zero d h (then (back s) (then (same_of _ _ (ap (λ v. a ^ v) en ∙ pow-add a i k)) (then (both_times z (same (a ^ k))) (same_of _ _ zk))))

-- a power below d that is 1 modulo d
pub record Cycle (a d : ℕ) : Type 0 where
  pub length : ℕ
  pub some : 0 < length
  pub below : length < d
  pub is : Same d (a ^ length) 1

pub cycle : (a n d : ℕ) → 1 < d → d ≤ n + 1 → Same d (a ^ n) 1 → Cycle a d
cycle a n d h l s =
    let e0 : suc (d - 1) ≡ d = omega arith in
    let f : ℕ → ℕ = λ (i : ℕ). a ^ i % d - 1 in
    let small : (i : ℕ) → i < suc (d - 1) → a ^ i % d - 1 < d - 1 = λ i b.
    let u : a ^ i % d ≢ 0 = unit a n d i h s (omega arith) in
    let w : a ^ i % d < d = mod-lt (a ^ i) (omega arith) in
    omega arith in
    let t : Twice f (suc (d - 1)) = pigeons (d - 1) f small in
    let i : ℕ = t.first in
    let j : ℕ = t.second in
    let ij : i < j = t.apart in
    let jd : j < suc (d - 1) = t.within in
    let ui : a ^ i % d ≢ 0 = unit a n d i h s (omega arith) in
    let uj : a ^ j % d ≢ 0 = unit a n d j h s (omega arith) in
    let q : a ^ i % d - 1 ≡ a ^ j % d - 1 = t.equal in
    let same_ij : a ^ i % d ≡ a ^ j % d = omega arith in
    let ej : j - i + n ≡ j + (n - i) = omega arith in
    let en : i + (n - i) ≡ n = omega arith in
    let one : Same d (a ^ i * a ^ (n - i)) 1 = then (same_of _ _ (sym (pow-add a i (n - i)) ∙ ap (λ v. a ^ v) en)) s in
    let other : Same d (a ^ j * a ^ (n - i)) (a ^ (j - i)) =
    then (same_of _ _ (sym (pow-add a j (n - i)) ∙ ap (λ v. a ^ v) (sym ej) ∙ pow-add a (j - i) n))
    (then (both_times (same (a ^ (j - i))) s) (same_of _ _ (let o : a ^ (j - i) * 1 ≡ a ^ (j - i) = omega arith in o))) in
    record {
      length = j - i;
      some = omega arith;
      below = omega arith;
      is = then (back other) (then (both_times (record { is = sym same_ij }) (same (a ^ (n - i)))) one);
    }

use Rattle.std.proofs.Common.{◌≡◌, ℕ, zero, suc, ◌+◌, ◌*◌, ◌/◌, ◌%◌, ◌<◌, ◌⊎◌, inl, inr, ap, arith}
use Rattle.std.proofs.lemmas.Bool.{cases_eq}
use Rattle.std.proofs.Math.Nat.{mod-lt}

pub record Divides (d n : ℕ) : Type 0 where
  pub times : ℕ
  pub is : n ≡ times * d

-- g is a multiple of a less one of b
pub record Mix (a b g : ℕ) : Type 0 where
  pub u : ℕ
  pub v : ℕ
  pub is : u * a ≡ v * b + g

pub record Common (a b : ℕ) : Type 0 where
  pub g : ℕ
  pub left : Divides g a
  pub right : Divides g b
  pub mix : Mix a b g ⊎ Mix b a g

-- from the pair b, a - k b to the pair a, b
stepped : (a b k r : ℕ) → a ≡ k * b + r → Common b r → Common a b
stepped a b k r e c =
    let i : ℕ = c.left.times in
    let j : ℕ = c.right.times in
    let el : b ≡ i * c.g = c.left.is in
    let er : r ≡ j * c.g = c.right.is in
    let ek : k * b ≡ k * (i * c.g) = ap (λ v. k * v) el in
    record {
      g = c.g;
      left = record { times = k * i + j; is = omega arith };
      right = c.left;
      mix = elim c.mix [
        | inl m ↦
            let q : m.v * a ≡ m.v * (k * b + r) = ap (λ v. m.v * v) e in
            let h : m.u * b ≡ m.v * r + c.g = m.is in
            inr record { u = m.u + m.v * k; v = m.v; is = omega arith }
        | inr m ↦
            let q : m.u * a ≡ m.u * (k * b + r) = ap (λ v. m.u * v) e in
            let h : m.u * r ≡ m.v * b + c.g = m.is in
            inl record { u = m.u; v = m.v + m.u * k; is = omega arith }
      ];
    }

common_within : (n a b : ℕ) → b < n → Common a b
common_within zero a b h = absurd (omega arith)
common_within (suc n) a b h = elim (cases_eq b 0) [
  | inl z ↦ record {
    g = a;
    left = record { times = 1; is = omega arith };
    right = record { times = 0; is = omega arith };
    mix = inl record { u = 1; v = 0; is = omega arith };
  }
  | inr o ↦
      let low : a % b < b = mod-lt a (omega arith) in
      stepped a b (a / b) (a % b) (omega arith) (common_within n b (a % b) (omega arith))
]

-- the greatest common divisor, with what makes it
pub common : (a b : ℕ) → Common a b
common a b = common_within (suc b) a b (omega arith)

-- each number is a multiple of q, or has no divisor with it but 1
pub record IsPrime (q : ℕ) : Type 0 where
  pub above : 1 < q
  pub splits : (a : ℕ) → Divides q a ⊎ (Mix q a 1 ⊎ Mix a q 1)

-- That the two numbers of P-256 that its arithmetic is modulo are primes (SEC 2, 2.4.2).
use Rattle.std.specs.Prelude.{◌≡◌, ℕ, ◌*◌, ◌<◌, ◌⊎◌}

-- above 1, and of any two factors the first is 1 or the number itself
abbrev pub HasNoFactors : ℕ → Type 0
HasNoFactors n = (1 < n) × ((a : ℕ) → (b : ℕ) → n ≡ a * b → (a ≡ 1) ⊎ (a ≡ n))

-- the prime of the field is one
abbrev pub FieldIsPrime : Type 0
FieldIsPrime = HasNoFactors 0xffffffff00000001000000000000000000000000ffffffffffffffffffffffff

-- the order of the base point is a prime
abbrev pub OrderIsPrime : Type 0
OrderIsPrime = HasNoFactors 0xffffffff00000000ffffffffffffffffbce6faada7179e84f3b9cac2fc632551

-- The field of the curve P-256: numbers below its prime (SEC 1, 2.1.1; SEC 2, 2.4.2).
use Rattle.std.specs.Prelude.{ℕ, ◌+◌, ◌-◌, ◌*◌, ◌%◌}

-- the prime of the field, 2 ^ 256 - 2 ^ 224 + 2 ^ 192 + 2 ^ 96 - 1
unfoldable pub prime : ℕ
prime = 0xffffffff00000001000000000000000000000000ffffffffffffffffffffffff

-- a + b in the field
abbrev pub plus : ℕ → ℕ → ℕ
plus a b = (a + b) % prime

-- a - b in the field, where b is below the prime
abbrev pub minus : ℕ → ℕ → ℕ
minus a b = (a + (prime - b)) % prime

-- a b in the field
abbrev pub times : ℕ → ℕ → ℕ
times a b = (a * b) % prime

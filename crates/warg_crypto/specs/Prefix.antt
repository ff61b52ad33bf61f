-- Prefix encoding: numbers, and texts behind their length. None is a beginning of another.
use Rattle.std.specs.Prelude.{ℕ, zero, suc, ◌≡◌, ◌+◌, ◌*◌, ◌/◌, ◌%◌, ◌<◌, ◌≤◌, ◌⊎◌, List, [], ◌∷◌, ◌++◌, length, nat_lt, if◌then◌else◌}

-- seven bits a byte, least significant first, and the high bit on all bytes but the last; at most n + 1 bytes
unfoldable pub groups_of : ℕ → ℕ → List ℕ
groups_of zero v = v ∷ []
groups_of (suc n) v = if nat_lt v 128 then v ∷ [] else ((v % 128 + 128) ∷ groups_of n (v / 128))

-- the shortest LEB128 of a number
unfoldable pub unsigned_of : ℕ → List ℕ
unsigned_of v = groups_of v v

-- a text behind its length in bytes
abbrev pub str_of : List ℕ → List ℕ
str_of text = unsigned_of (length text) ++ text

-- the last byte, and no other, lacks the high bit
abbrev pub EndsOnce : List ℕ → Type 0
EndsOnce [] = ⊥
EndsOnce (b ∷ bs) = ((b < 128) × (bs ≡ [])) ⊎ ((128 ≤ b) × EndsOnce bs)

-- the number whose groups of seven bits are the bytes without their high bits, least significant first
abbrev pub base_128 : List ℕ → ℕ
base_128 [] = 0
base_128 (b ∷ bs) = b % 128 + 128 * base_128 bs

-- the bytes are a LEB128 of the number
pub record IsLeb128 (bytes : List ℕ) (value : ℕ) : Type 0 where
  pub ends : EndsOnce bytes
  pub value_is : base_128 bytes ≡ value

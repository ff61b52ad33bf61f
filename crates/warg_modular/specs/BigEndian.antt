-- Bytes as a number (SEC 1, 2.3.8).
use Rattle.std.specs.Prelude.{ℕ, ◌+◌, ◌*◌, List}
use Rattle.std.specs.List.{fold}

-- the number that bytes write, the highest first
unfoldable pub big_endian : List ℕ → ℕ
big_endian bytes = fold (λ a b. a * 256 + b) 0 bytes

-- Names that ascend in byte order.
use Rattle.std.specs.Prelude.{ℕ, List, Bool, true, Option, Some, None}
use Rattle.std.specs.Cmp.Lexicographic.{slice_cmp}
use Rattle.std.specs.Ordering.{is_lt, nat_cmp}

-- the name comes after the last one, if there is one, in byte order
abbrev pub ascends : Option (List ℕ) → List ℕ → Bool
ascends None name = true
ascends (Some last) name = is_lt (slice_cmp nat_cmp last name)

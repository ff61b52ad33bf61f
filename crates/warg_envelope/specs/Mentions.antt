-- The distinct items of a list.
use Rattle.std.specs.Prelude.{Bool, not, List, [], ◌∷◌, filter}

-- the items, each where it stands first
abbrev pub distinct : {X : Type 0} → (X → X → Bool) → List X → List X
distinct same [] = []
distinct same (x ∷ xs) = x ∷ filter (λ y. not (same x y)) (distinct same xs)

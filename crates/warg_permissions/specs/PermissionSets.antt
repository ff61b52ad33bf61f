-- When two sets of permissions are the same.
use Rattle.std.specs.Prelude.{Bool, List, ◌&&◌}
use Rattle.std.specs.List.{list_all, list_any}

-- each has each permission of the other
abbrev pub same_sets : {P : Type 0} → (P → P → Bool) → List P → List P → Bool
same_sets same ps qs = list_all (λ p. list_any (same p) qs) ps && list_all (λ q. list_any (same q) ps) qs

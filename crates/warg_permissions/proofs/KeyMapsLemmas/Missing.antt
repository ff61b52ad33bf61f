-- The first permission that is not held, or that was listed before.
use Rattle.std.proofs.Common.{◌≡◌, List, [], ◌∷◌, ◌++◌, Bool, true, ◌&&◌, not, Some, ap, if◌then◌else◌}
use Rattle.warg_permissions.specs.Permissions.{lists}
use Rattle.warg_permissions.specs.KeyMaps.Rights.{first_missing}

module _ {P : Type 0} (same : P → P → Bool) (held : P → Bool) (earlier : List P) (x : P) (rest : List P) where
  -- one more permission that is held, and not listed before
  pub first_missing-more : (held x && not (lists same earlier x)) ≡ true → first_missing same held earlier (x ∷ rest) ≡ first_missing same held (earlier ++ x ∷ []) rest
  first_missing-more h = ap (λ b. if b then first_missing same held (earlier ++ x ∷ []) rest else Some x) h

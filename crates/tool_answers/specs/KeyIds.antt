-- The ids of the keys of a log.
use Rattle.std.specs.Prelude.{◌≡◌, ℕ, Bool, List}
use Rattle.std.specs.List.{IsDistinct, list_any}
use Rattle.std.specs.Str.{bytes_eq}

-- the ids are those that a log has a key of, each once
pub record AreIdsOf (has_key : List ℕ → Bool) (ids : List (List ℕ)) : Type 0 where
  pub all : (id : List ℕ) → list_any (λ it. bytes_eq it id) ids ≡ has_key id
  pub once : IsDistinct bytes_eq ids

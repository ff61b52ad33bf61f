-- What a map from key ids to the permissions of their keys says, as functions.
use Rattle.std.specs.Prelude.{ℕ, List, Bool, false, Option, Some, None, is_some, [], ◌∷◌, ◌++◌, ◌&&◌, not, if◌then◌else◌}
use Rattle.std.specs.Map.{lookup}
use Rattle.std.specs.Option.{option_map_or, option_or}
use Rattle.std.specs.Str.{bytes_eq}
use Rattle.indexmap.specs.IndexMap.{IndexMap, get}
use Rattle.std.specs.List.{list_any}
use Rattle.warg_permissions.specs.Permissions.{lists}

-- the value at k where changes lie over a map: that of the changes if they have one, else the map's
abbrev pub value_over : {X : Type 0} → List (List ℕ × X) → List (List ℕ × X) → List ℕ → Option X
value_over base changes k = option_or (lookup (bytes_eq k) changes) (lookup (bytes_eq k) base)

-- whether p is among the permissions listed, if any are
abbrev pub is_listed : {P : Type 0} → (P → P → Bool) → Option (List P) → P → Bool
is_listed same listed p = option_map_or (λ ps. list_any (same p) ps) listed false

module _ {P Z : Type 0} where
  -- whether the map gives k the permission p
  abbrev pub holds_in : (P → P → Bool) → IndexMap (List ℕ) (List P) Z → List ℕ → P → Bool
  holds_in same m k p = is_listed same (get bytes_eq m k) p

  -- whether k holds p where the changes lie over the map
  abbrev pub held_over : (P → P → Bool) → IndexMap (List ℕ) (List P) Z → IndexMap (List ℕ) (List P) Z
      → List ℕ → P → Bool
  held_over same m changes k p = is_listed same (value_over m.entries changes.entries k) p

  -- whether k has an entry of permissions where the changes lie over the map
  abbrev pub has_entry_over : IndexMap (List ℕ) (List P) Z → IndexMap (List ℕ) (List P) Z → List ℕ → Bool
  has_entry_over m changes k = is_some (value_over m.entries changes.entries k)

-- the first that is not held, or that is listed earlier
abbrev pub first_missing : {P : Type 0} → (P → P → Bool) → (P → Bool) → List P → List P → Option P
first_missing same held earlier [] = None
first_missing same held earlier (p ∷ ps) = if held p && not (lists same earlier p) then first_missing same held (earlier ++ p ∷ []) ps else Some p

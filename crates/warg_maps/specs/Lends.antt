-- What a map is, once a value that it lent to be written has come back.
use Rattle.std.specs.Prelude.{◌≡◌, ℕ, Bool, Option}
use Rattle.std.specs.Borrow.{Fml, RattleType, MutBor, Lends, LendsSo}
use Rattle.std.specs.declared.cmp.Ordering.{Ordering}
use Rattle.std.specs.declared.hash.Hasher as hasher
use Rattle.std.specs.declared.hash.BuildHasher as builder
use Rattle.std.specs.HashMap.Lent.{HashMembers}
use Rattle.indexmap.specs.IndexMap.{IndexMap, WritesThrough, with_value_at}
use Rattle.warg_maps.specs.contracts.map.NameMap.{the_row}

-- what a clause has as K.Ord
abbrev pub OrdMembers : Type 0 → Type 0
OrdMembers K = record { partial_cmp : K → K → Option Ordering; eq : K → K → Bool; cmp : K → K → Ordering }

module _ (K V S H : RattleType) (order : OrdMembers K.Denot) (key : HashMembers K.Denot) (build : builder.Ghosts S.Denot H.Denot) (hash : hasher.Ghosts H.Denot) where
  -- a map of these keys, values and hashers
  abbrev pub NameMapRow : RattleType
  NameMapRow = the_row K V S H (record { cmp = order.cmp }) (record { eq = order.eq }) (record { partial_cmp = order.partial_cmp }) (record { hash_input = key.hash_input }) build hash

  -- at the place stands what was written last
  abbrev pub lends_index : MutBor (IndexMap K.Denot V.Denot S.Denot) → ℕ → MutBor V.Denot → Fml
  lends_index lent place value = Lends NameMapRow V lent value (with_value_at lent.now place)

  -- at the key that passes stands what was written last, and nothing is new where there is no such key
  abbrev pub lends_get : MutBor (IndexMap K.Denot V.Denot S.Denot) → (K.Denot → Bool) → Option (MutBor V.Denot) → Fml
  lends_get lent passes value = LendsSo NameMapRow V lent value (λ after written. WritesThrough order.eq passes lent.now written after) (λ after. after ≡ lent.now)

-- What an index knows of the keys.
use Rattle.std.specs.Prelude.{◌≡◌, ℕ, ◌<◌, ◌%◌, ◌^◌, ◌⊎◌, Bool, List, Some, length, slice_index_or, IsSome, IsTrue}
use Rattle.std.specs.Option.{MatchOption}
use Rattle.std.specs.Ordering.{nat_cmp}
use Rattle.std.specs.declared.cmp.Ordering.{Ordering}
use Rattle.std.specs.BTreeMap.{get}
use Rattle.warg_maps.specs.declared.index.Index.{Index}
use Rattle.warg_maps.specs.declared.index.Further.{Further}
use Rattle.warg_maps.specs.Buckets.{HasPlaceOr}

-- the key at the place i passes the test
pub record IsAt {K : Type 0} (test : K → Bool) (keys : List K) (i : ℕ) : Type 0 where
  pub within : i < length keys
  pub passes : (d : K) → IsTrue (test (slice_index_or keys i d))

module _ {K : Type 0} (cmp : K → K → Ordering) (x : Further K) where
  -- the key k has the place i by its other hash f, or in order where f is another key's
  pub record HasFar (f : ℕ) (k : K) (i : ℕ) : Type 0 where
    pub entry : (get nat_cmp x.far f ≡ Some i) ⊎ (IsSome (get nat_cmp x.far f) × (get cmp x.crowd k ≡ Some i))

  -- the key k has the place i in its second bucket, or further on
  pub record HasSecond (f : ℕ) (k : K) (i : ℕ) : Type 0 where
    pub entry : HasPlaceOr x.second.items (f % 2 ^ 32) i (HasFar f k i)

module _ {K : Type 0} (cmp : K → K → Ordering) (x : Index K) where
  -- the key k has the place i by its other hash f, or some key has none
  pub record HasFurther (f : ℕ) (k : K) (i : ℕ) : Type 0 where
    pub entry : IsTrue x.lacks_places ⊎ MatchOption x.further ⊥ (λ b. HasSecond cmp b.value f k i)

  -- the key k has the place i in its near bucket, by its hash h, or further on
  pub record HasEntry (h f : ℕ) (k : K) (i : ℕ) : Type 0 where
    pub entry : HasPlaceOr x.near.items h i (HasFurther f k i)

-- What the buckets hold.
use Rattle.std.specs.Prelude.{◌≡◌, ◌≢◌, ℕ, ◌+◌, ◌-◌, ◌*◌, ◌/◌, ◌<◌, ◌≤◌, ◌⊎◌, List, length, bit_and, slice_index_or}
use Rattle.warg_maps.specs.declared.buckets.Slot.{Slot}

-- where the bucket of the hash h begins, of n slots
unfoldable pub start_of : ℕ → ℕ → ℕ
start_of n h = 8 * bit_and h (n / 8 - 1)

-- no place
abbrev pub free : ℕ
free = 4294967295

abbrev pub free_slot : Slot
free_slot = record { hash = 0; place = free }

module _ (slots : List Slot) where
  abbrev pub slot_at : ℕ → Slot
  slot_at k = slice_index_or slots k free_slot

  -- the first k slots of the bucket of the hash h have places
  abbrev pub AreTaken : ℕ → ℕ → Type 0
  AreTaken h k = (j : ℕ) → j < k → (slot_at (start_of (length slots) h + j)).place ≢ free

  -- a slot of the bucket of the hash h has the place i, and so has each before it another
  pub record HasPlace (h i : ℕ) : Type 0 where
    pub table : 8 ≤ length slots
    pub lane : ℕ
    pub in_bucket : lane < 8
    pub before : AreTaken h lane
    pub is_place : i < free
    pub at : slot_at (start_of (length slots) h + lane) ≡ record { hash = h; place = i }

  -- each slot of the bucket of the hash h has a place, or there are no buckets
  abbrev pub IsFull : ℕ → Type 0
  IsFull h = 8 ≤ length slots → AreTaken h 8

  -- the slot at the index is the first of the bucket of h that has no place
  pub record IsFreeAt (h at : ℕ) : Type 0 where
    pub table : 8 ≤ length slots
    pub lane : ℕ
    pub in_bucket : lane < 8
    pub before : AreTaken h lane
    pub within : at < length slots
    pub index : at ≡ start_of (length slots) h + lane
    pub is_free : (slot_at at).place ≡ free

  -- a slot of the bucket of the hash h has the place i, or the bucket is full and E holds
  abbrev pub HasPlaceOr : ℕ → ℕ → Type 0 → Type 0
  HasPlaceOr h i E = HasPlace h i ⊎ (IsFull h × E)

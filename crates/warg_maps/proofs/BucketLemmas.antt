-- What a slot that is written leaves of the buckets.
use Rattle.std.proofs.Common.{◌≡◌, ◌≢◌, ℕ, ◌+◌, ◌<◌, ◌≤◌, List, length, set, sym, ap, ◌∙◌, subst, arith, length-set, get_or-set_same, get_or-set_other}
use native.Mathlib.Decide.{ℕ_discrete}
use Rattle.warg_maps.specs.declared.buckets.Slot.{Slot}
use Rattle.warg_maps.specs.Buckets.{start_of, free, free_slot, slot_at, AreTaken, HasPlace, IsFull}

-- where the slot w had no place and gets one
module _ (ss : List Slot) (w : ℕ) (x : Slot) (within : w < length ss) (placed : x.place ≢ free) where
  taken-kept : (k : ℕ) → (slot_at ss k).place ≢ free → (slot_at (set ss w x) k).place ≢ free
  taken-kept k taken =
      elim (ℕ_discrete k w) [
        | yes same ↦ subst (λ n. (slot_at (set ss w x) n).place ≢ free) (sym same) (subst (λ (s : Slot). s.place ≢ free) (sym (get_or-set_same ss w x free_slot within)) placed)
        | no other ↦ subst (λ (s : Slot). s.place ≢ free) (sym (get_or-set_other ss w k x free_slot other)) taken
      ]

  pub AreTaken-kept : (h k : ℕ) → AreTaken ss h k → AreTaken (set ss w x) h k
  AreTaken-kept h k all j p = subst (λ n. (slot_at (set ss w x) (start_of n h + j)).place ≢ free) (sym (length-set ss w x)) (taken-kept (start_of (length ss) h + j) (all j p))

  pub IsFull-kept : (h : ℕ) → IsFull ss h → IsFull (set ss w x) h
  IsFull-kept h full table = AreTaken-kept h 8 (full (subst (λ n. 8 ≤ n) (length-set ss w x) table))

  pub HasPlace-kept : (slot_at ss w).place ≡ free → (h i : ℕ) → HasPlace ss h i → HasPlace (set ss w x) h i
  HasPlace-kept unused h i p =
      let k = start_of (length ss) h + p.lane in
      let other : k ≢ w = λ same. let is : i ≡ free = sym (ap (λ (s : Slot). s.place) p.at) ∙ ap (λ n. (slot_at ss n).place) same ∙ unused in absurd (omega (arith, p.is_place, is)) in
      record {
        table = subst (λ n. 8 ≤ n) (sym (length-set ss w x)) p.table;
        lane = p.lane;
        in_bucket = p.in_bucket;
        before = AreTaken-kept h p.lane p.before;
        is_place = p.is_place;
        at = ap (λ n. slot_at (set ss w x) (start_of n h + p.lane)) (length-set ss w x) ∙ get_or-set_other ss w k x free_slot other ∙ p.at;
      }

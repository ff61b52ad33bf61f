-- A bit that is set.
use Rattle.std.proofs.Common.{◌≡◌, ◌≢◌, ◌↔◌, ℕ, ◌+◌, ◌-◌, ◌*◌, ◌/◌, ◌%◌, ◌^◌, ◌<◌, ◌≤◌, ◌==◌, true, false, IsTrue, List, [], length, get_or, set, replicate, inl, inr, refl, sym, ◌∙◌, ap, arith}
use Rattle.std.specs.Int.{bit_at, w8}
use Rattle.std.specs.Int.Bits.{bit_or}
use Rattle.std.proofs.lemmas.Bool.{cases_eq, cases_lt}
use Rattle.std.proofs.lemmas.Nat.Bits.{bit_at_set_same, bit_at_set_other, bit_at-zero}
use Rattle.std.proofs.lemmas.List.{get_or-set_same, get_or-set_other, get_or-replicate, get_or_past}
use Rattle.warg_merkle.specs.SparseMap.Maps.{is_right, empty_root}
use Rattle.warg_merkle.specs.MapProof.ShortForms.{is_left_out}

-- the bits with that of a height set
abbrev pub mark : List ℕ → ℕ → List ℕ
mark bits h = set bits (h / 8) (bit_or (get_or bits (h / 8) 0) (1 * 2 ^ (7 - h % 8) % 2 ^ 8))

right_at : (bits : List ℕ) (h : ℕ) → is_right bits h ≡ (bit_at (get_or bits (h / 8) 0) (7 - h % 8) == 1)
unfolding is_right
right_at bits h = refl

pub mark_same : (bits : List ℕ) (h : ℕ) → h / 8 < length bits → is_right (mark bits h) h ≡ true
mark_same bits h inside =
    right_at (mark bits h) h
    ∙ ap (λ b. (bit_at b (7 - h % 8) == 1)) (get_or-set_same bits (h / 8) (bit_or (get_or bits (h / 8) 0) (1 * 2 ^ (7 - h % 8) % 2 ^ 8)) 0 inside)
    ∙ ap (λ b. (b == 1)) (bit_at_set_same w8 (get_or bits (h / 8) 0) (7 - h % 8) (omega arith))

pub mark_other : (bits : List ℕ) (h i : ℕ) → h / 8 < length bits → i ≢ h → is_right (mark bits h) i ≡ is_right bits i
mark_other bits h i inside differ = elim (cases_eq (i / 8) (h / 8)) [
  | inr apart ↦ right_at (mark bits h) i ∙ ap (λ b. (bit_at b (7 - i % 8) == 1)) (get_or-set_other bits (h / 8) (i / 8) _ 0 apart) ∙ sym (right_at bits i)
  | inl same ↦
      let bit : (7 - i % 8) ≢ (7 - h % 8) = λ e. differ (omega arith) in
      right_at (mark bits h) i
      ∙ ap (λ q. (bit_at (get_or (mark bits h) q 0) (7 - i % 8) == 1)) same
      ∙ ap (λ b. (bit_at b (7 - i % 8) == 1)) (get_or-set_same bits (h / 8) (bit_or (get_or bits (h / 8) 0) (1 * 2 ^ (7 - h % 8) % 2 ^ 8)) 0 inside)
      ∙ ap (λ b. (b == 1)) (bit_at_set_other w8 (get_or bits (h / 8) 0) (7 - h % 8) (omega arith) (7 - i % 8) bit)
      ∙ ap (λ q. (bit_at (get_or bits q 0) (7 - i % 8) == 1)) (sym same)
      ∙ sym (right_at bits i)
]

-- the bits below a height are those of the path, and the others are not set
pub record Marked (hash : List ℕ → List ℕ) (bits : List ℕ) (h : ℕ) (path : List (List ℕ)) : Type 0 where
  pub low : (i : ℕ) → i < h → IsTrue (is_left_out bits i) ↔ (get_or path i [] ≡ empty_root hash i)
  pub high : (i : ℕ) → h ≤ i → is_right bits i ≡ false

right_none : (i : ℕ) → is_right (replicate 32 0) i ≡ false
right_none i =
    let zero : get_or (replicate 32 0) (i / 8) 0 ≡ 0 = elim (cases_lt (i / 8) 32) [
      | inl inside ↦ get_or-replicate 32 (i / 8) 0 0 inside
      | inr past ↦ get_or_past (replicate 32 0) (i / 8) 0 past
    ] in
    right_at (replicate 32 0) i ∙ ap (λ b. (bit_at b (7 - i % 8) == 1)) zero ∙ ap (λ b. (b == 1)) (bit_at-zero (7 - i % 8))

module _ (hash : List ℕ → List ℕ) where
  pub marked_none : (path : List (List ℕ)) → Marked hash (replicate 32 0) 0 path
  marked_none path = record { low = λ i below. absurd (omega arith); high = λ i above. right_none i }

  pub marked_more : (bits : List ℕ) (h : ℕ) (path : List (List ℕ)) → h / 8 < length bits → Marked hash bits h path → get_or path h [] ≡ empty_root hash h → Marked hash (mark bits h) (h + 1) path
  marked_more bits h path inside m is = record {
    low = λ i below. elim (cases_eq i h) [
      | inl here ↦ (λ t. ap (λ j. get_or path j []) here ∙ is ∙ ap (empty_root hash) (sym here), λ e. ap (is_right (mark bits h)) here ∙ mark_same bits h inside)
      | inr apart ↦
          let same = mark_other bits h i inside apart in
          let old = m.low i (omega arith) in
          (λ t. old.0 (sym same ∙ t), λ e. same ∙ old.1 e)
    ];
    high = λ i above. mark_other bits h i inside (λ e. absurd (omega arith)) ∙ m.high i (omega arith);
  }

  pub marked_same : (bits : List ℕ) (h : ℕ) (path : List (List ℕ)) → Marked hash bits h path → get_or path h [] ≢ empty_root hash h → Marked hash bits (h + 1) path
  marked_same bits h path m differ = record {
    low = λ i below. elim (cases_eq i h) [
      | inl here ↦
          (λ t. absurd (let b : is_right bits i ≡ false = m.high i (omega arith) in cc), λ e. absurd (differ (ap (λ j. get_or path j []) (sym here) ∙ e ∙ ap (empty_root hash) here)))
      | inr apart ↦ m.low i (omega arith)
    ];
    high = λ i above. m.high i (omega arith);
  }

-- The short form of a path.
use Rattle.std.proofs.Common.{◌≡◌, ◌↔◌, ℕ, zero, suc, ◌+◌, ◌-◌, ◌*◌, ◌/◌, ◌%◌, ◌^◌, ◌<◌, ◌≤◌, IsTrue, List, [], ◌++◌, length, get_or, take, inl, inr, refl, sym, ◌∙◌, ap, arith}
use Rattle.std.specs.List.{concat}
use Rattle.std.specs.Str.{bytes_eq}
use Rattle.std.proofs.lemmas.Bool.{cases_Bool, cases_lt}
use Rattle.std.proofs.lemmas.Bool.Decides.{Decides-eqb, not_from_Decides}
use Rattle.std.proofs.lemmas.List.{length-append, take_at, drop_at, get_or_past}
use Rattle.std.proofs.lemmas.Slice.Eq.{bytes_eq-Decides}
use Rattle.warg_merkle.specs.SparseMap.Maps.{is_right, empty_root}
use Rattle.warg_merkle.specs.MapProof.ShortForms.{is_left_out, others_of, IsShortForm, mark_at, marks_byte, marks_from, short_form_of}
use Rattle.warg_merkle.proofs.MapProofLemmas.Forms.{byte_of_take, one_form_of}

-- the bits of a byte
pub record Bits (byte : ℕ) (a b c d e f g h : ℕ) : Type 0 where
  pub at_0 : byte / 128 % 2 ≡ a
  pub at_1 : byte / 64 % 2 ≡ b
  pub at_2 : byte / 32 % 2 ≡ c
  pub at_3 : byte / 16 % 2 ≡ d
  pub at_4 : byte / 8 % 2 ≡ e
  pub at_5 : byte / 4 % 2 ≡ f
  pub at_6 : byte / 2 % 2 ≡ g
  pub at_7 : byte / 1 % 2 ≡ h

bits_in : (a b c d e f g h : ℕ) → a ≤ 1 → b ≤ 1 → c ≤ 1 → d ≤ 1 → e ≤ 1 → f ≤ 1 → g ≤ 1 → h ≤ 1
    → Bits (128 * a + 64 * b + 32 * c + 16 * d + 8 * e + 4 * f + 2 * g + h) a b c d e f g h
bits_in a b c d e f g h la lb lc ld le lf lg lh = record {
  at_0 = omega arith;
  at_1 = omega arith;
  at_2 = omega arith;
  at_3 = omega arith;
  at_4 = omega arith;
  at_5 = omega arith;
  at_6 = omega arith;
  at_7 = omega arith;
}

module _ (hash : List ℕ → List ℕ) where
  mark_few : (path : List (List ℕ)) (h : ℕ) → mark_at hash path h ≤ 1
  mark_few path h = elim (cases_Bool (bytes_eq (get_or path h []) (empty_root hash h))) [
    | inl same ↦ rw same (omega arith)
    | inr differ ↦ rw differ (omega arith)
  ]

  mark_says : (path : List (List ℕ)) (h : ℕ) → (mark_at hash path h ≡ 1) ↔ (get_or path h [] ≡ empty_root hash h)
  mark_says path h =
      let decides = bytes_eq-Decides (get_or path h []) (empty_root hash h) in
      elim (cases_Bool (bytes_eq (get_or path h []) (empty_root hash h))) [
        | inl same ↦ rw same (λ e. decides.0 same, λ e. refl)
        | inr differ ↦ rw differ (λ e. absurd (omega arith), λ e. absurd (not_from_Decides (bytes_eq (get_or path h []) (empty_root hash h)) decides differ e))
      ]

  length-marks_from : (n h : ℕ) (path : List (List ℕ)) → length (marks_from hash n h path) ≡ n
  unfolding marks_from
  length-marks_from zero h path = refl
  length-marks_from (suc n) h path = ap (λ k. suc k) (length-marks_from n (h + 8) path)

  byte_at : (n h i k : ℕ) (path : List (List ℕ)) → i < n → k ≡ h + 8 * i → get_or (marks_from hash n h path) i 0 ≡ marks_byte hash path k
  unfolding marks_from
  byte_at zero h i k path inside at = absurd (omega arith)
  byte_at (suc n) h zero k path inside at = ap (marks_byte hash path) (let same : h ≡ k = omega arith in same)
  byte_at (suc n) h (suc i) k path inside at = byte_at n (h + 8) i k path (omega arith) (omega arith)

  byte_few : (path : List (List ℕ)) (h : ℕ) → marks_byte hash path h < 256
  byte_few path h = omega (arith, mark_few path h, mark_few path (h + 1), mark_few path (h + 2), mark_few path (h + 3), mark_few path (h + 4), mark_few path (h + 5), mark_few path (h + 6), mark_few path (h + 7))

  pub marks_bytes : (path : List (List ℕ)) (i : ℕ) → get_or (marks_from hash 32 0 path) i 0 < 256
  marks_bytes path i = elim (cases_lt i 32) [
    | inl inside ↦ rw (byte_at 32 0 i (8 * i) path inside (omega arith)) (byte_few path (8 * i))
    | inr past ↦ rw (get_or_past (marks_from hash 32 0 path) i 0 (omega (arith, length-marks_from 32 0 path))) (omega arith)
  ]

  byte_bits : (path : List (List ℕ)) (h : ℕ) → Bits (marks_byte hash path h) (mark_at hash path h) (mark_at hash path (h + 1)) (mark_at hash path (h + 2)) (mark_at hash path (h + 3)) (mark_at hash path (h + 4)) (mark_at hash path (h + 5)) (mark_at hash path (h + 6)) (mark_at hash path (h + 7))
  byte_bits path h = bits_in (mark_at hash path h) (mark_at hash path (h + 1)) (mark_at hash path (h + 2)) (mark_at hash path (h + 3)) (mark_at hash path (h + 4)) (mark_at hash path (h + 5)) (mark_at hash path (h + 6)) (mark_at hash path (h + 7))
      (mark_few path h) (mark_few path (h + 1)) (mark_few path (h + 2)) (mark_few path (h + 3)) (mark_few path (h + 4)) (mark_few path (h + 5)) (mark_few path (h + 6)) (mark_few path (h + 7))

  bit_is : (path : List (List ℕ)) (k h r : ℕ) → k ≡ h + r → r < 8 → marks_byte hash path h / 2 ^ (7 - r) % 2 ≡ mark_at hash path k
  bit_is path k h zero at inside = (byte_bits path h).at_0 ∙ ap (mark_at hash path) (let same : h ≡ k = omega arith in same)
  bit_is path k h (suc zero) at inside = (byte_bits path h).at_1 ∙ ap (mark_at hash path) (let same : h + 1 ≡ k = omega arith in same)
  bit_is path k h (suc (suc zero)) at inside = (byte_bits path h).at_2 ∙ ap (mark_at hash path) (let same : h + 2 ≡ k = omega arith in same)
  bit_is path k h (suc (suc (suc zero))) at inside = (byte_bits path h).at_3 ∙ ap (mark_at hash path) (let same : h + 3 ≡ k = omega arith in same)
  bit_is path k h (suc (suc (suc (suc zero)))) at inside = (byte_bits path h).at_4 ∙ ap (mark_at hash path) (let same : h + 4 ≡ k = omega arith in same)
  bit_is path k h (suc (suc (suc (suc (suc zero))))) at inside = (byte_bits path h).at_5 ∙ ap (mark_at hash path) (let same : h + 5 ≡ k = omega arith in same)
  bit_is path k h (suc (suc (suc (suc (suc (suc zero)))))) at inside = (byte_bits path h).at_6 ∙ ap (mark_at hash path) (let same : h + 6 ≡ k = omega arith in same)
  bit_is path k h (suc (suc (suc (suc (suc (suc (suc zero))))))) at inside = (byte_bits path h).at_7 ∙ ap (mark_at hash path) (let same : h + 7 ≡ k = omega arith in same)
  bit_is path k h (suc (suc (suc (suc (suc (suc (suc (suc r)))))))) at inside = absurd (omega arith)

  -- the bits of a path
  says : (path : List (List ℕ)) (k : ℕ) → k < 256 → IsTrue (is_left_out (marks_from hash 32 0 path) k) ↔ (get_or path k [] ≡ empty_root hash k)
  unfolding is_right
  says path k inside =
      let byte = byte_at 32 0 (k / 8) (8 * (k / 8)) path (omega arith) (omega arith) in
      let bit : get_or (marks_from hash 32 0 path) (k / 8) 0 / 2 ^ (7 - k % 8) % 2 ≡ mark_at hash path k =
      ap (λ b. b / 2 ^ (7 - k % 8) % 2) byte ∙ bit_is path k (8 * (k / 8)) (k % 8) (omega arith) (omega arith) in
      let decides = Decides-eqb (get_or (marks_from hash 32 0 path) (k / 8) 0 / 2 ^ (7 - k % 8) % 2) 1 in
      let mark = mark_says path k in
      (λ t. mark.0 (sym bit ∙ decides.0 t), λ e. decides.1 (bit ∙ mark.1 e))

  pub form_of : (path : List (List ℕ)) → length path ≡ 256 → IsShortForm hash path (short_form_of hash path)
  unfolding short_form_of
  form_of path long =
      let bits = marks_from hash 32 0 path in
      let size : length bits ≡ 32 = length-marks_from 32 0 path in
      let others = concat (others_of 0 bits path) in
      let front : take 32 (bits ++ others) ≡ bits = take_at bits others 32 size in
      record {
        heights = long;
        whole = omega (arith, length-append bits others);
        bits = λ height below. rw front (says path height below);
        others = drop_at bits others 32 size ∙ ap (λ b. concat (others_of 0 b path)) (sym front);
      }

  -- the short form of a path is this one
  pub is_form_of : (path : List (List ℕ)) (bytes : List ℕ) → ((i : ℕ) → get_or bytes i 0 < 256) → IsShortForm hash path bytes → bytes ≡ short_form_of hash path
  unfolding short_form_of
  is_form_of path bytes hb f =
      let bits = marks_from hash 32 0 path in
      let front : take 32 (short_form_of hash path) ≡ bits = take_at bits (concat (others_of 0 bits path)) 32 (length-marks_from 32 0 path) in
      one_form_of hash path bytes (short_form_of hash path) (byte_of_take bytes hb) (λ i. rw front (marks_bytes path i)) f (form_of path f.heights)

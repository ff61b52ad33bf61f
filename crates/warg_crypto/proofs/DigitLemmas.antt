-- Digits read in one pass, in which a wrong one is only noted.
use Rattle.std.proofs.Common.{◌≡◌, ℕ, ◌+◌, ◌*◌, ◌%◌, ◌<◌, ◌≤◌, nat_lt, Bool, true, false, not, ◌||◌, IsTrue, List, length, take, drop, slice_index, slice_set, Option, Some, None, unwrap_or, Ok, Err, is_ok, refl, sym, ap, ◌∙◌, arith}
use Rattle.hex.specs.Hex.{decode_of, decode_pairs, pair_value, hex_digit_value, digit_or_error, value_at}
use Rattle.hex.specs.declared.error.FromHexError.{FromHexError}
use Rattle.hex.specs.declared.error.FromHexError.TheVariants.{InvalidHexCharacter}
use Rattle.hex.proofs.Pairs.{prepend, decode_step, decode_err, decode_done}
use Rattle.hex.proofs.HexLemmas.{decode_of-even}

-- the value of a digit, and 16 for another byte
abbrev pub or_16 : ℕ → ℕ
or_16 c = unwrap_or (hex_digit_value c) 16

-- ---- pairs of digits

-- the first pairs, `i` of them, are read; or one of them is not
abbrev pub Read : Bool → List ℕ → List ℕ → ℕ → Type 0
Read false s out i = decode_pairs 0 s ≡ prepend (take i out) (decode_pairs (2 * i) (drop (2 * i) s))
Read true s out i = is_ok (decode_pairs 0 s) ≡ false

refused : (s : List ℕ) (e : FromHexError) → decode_pairs 0 s ≡ Err e → is_ok (decode_pairs 0 s) ≡ false
refused s e h = ap is_ok h

value_small : (c v : ℕ) → hex_digit_value c ≡ Some v → v < 16
value_small c v h = grind (arith)

-- what is known of a digit
data Digit (c : ℕ) : Type 0 where
  good : (v : ℕ) → hex_digit_value c ≡ Some v → v < 16 → Digit c
  bad : hex_digit_value c ≡ None → Digit c

digit_by : (c : ℕ) (o : Option ℕ) → hex_digit_value c ≡ o → Digit c
digit_by c (Some v) h = good v h (value_small c v h)
digit_by c None h = bad h

digit : (c : ℕ) → Digit c
digit c = digit_by c (hex_digit_value c) refl

small_test : (h : ℕ) → h < 16 → nat_lt 15 h ≡ false
small_test h lt = grind (arith)

pair_good : (a b k va vb : ℕ) → hex_digit_value a ≡ Some va → hex_digit_value b ≡ Some vb → pair_value a b k ≡ Ok (va * 16 + vb)
pair_good a b k va vb ha hb =
    let pa : value_at a k ≡ Ok va = ap (digit_or_error a k) ha in
    let pb : value_at b (k + 1) ≡ Ok vb = ap (digit_or_error b (k + 1)) hb in
    rw (pa, pb) refl

pair_bad_first : (a b k : ℕ) → hex_digit_value a ≡ None → pair_value a b k ≡ Err (InvalidHexCharacter a k)
pair_bad_first a b k ha =
    let pa : value_at a k ≡ Err (InvalidHexCharacter a k) = ap (digit_or_error a k) ha in
    rw pa refl

pair_bad_second : (a b k va : ℕ) → hex_digit_value a ≡ Some va → hex_digit_value b ≡ None
    → pair_value a b k ≡ Err (InvalidHexCharacter b (k + 1))
pair_bad_second a b k va ha hb =
    let pa : value_at a k ≡ Ok va = ap (digit_or_error a k) ha in
    let pb : value_at b (k + 1) ≡ Err (InvalidHexCharacter b (k + 1)) = ap (digit_or_error b (k + 1)) hb in
    rw (pa, pb) refl

good_value : (c h v : ℕ) → h ≡ or_16 c → hex_digit_value c ≡ Some v → h ≡ v
good_value c h v e is = e ∙ ap (λ (o : Option ℕ). unwrap_or o 16) is

bad_value : (c h : ℕ) → h ≡ or_16 c → hex_digit_value c ≡ None → h ≡ 16
bad_value c h e is = e ∙ ap (λ (o : Option ℕ). unwrap_or o 16) is

both_small : (h l : ℕ) → h < 16 → l < 16 → (nat_lt 15 h || nat_lt 15 l) ≡ false
both_small h l sh sl = rw (small_test h sh, small_test l sl) refl

first_large : (h l : ℕ) → h ≡ 16 → (nat_lt 15 h || nat_lt 15 l) ≡ true
first_large h l e = rw e refl

second_large : (h l : ℕ) → h < 16 → l ≡ 16 → (nat_lt 15 h || nat_lt 15 l) ≡ true
second_large h l sh e = rw (small_test h sh, e) refl

-- one pair more
pub read_step : (wrong : Bool) (s out : List ℕ) (i h l : ℕ) → 2 * i + 1 < length s → i < length out
    → h ≡ or_16 (slice_index s (2 * i)) → l ≡ or_16 (slice_index s (2 * i + 1)) → Read wrong s out i
    → Read ((wrong || nat_lt 15 h) || nat_lt 15 l) s (slice_set out i (h % 16 * 16 + l % 16)) (i + 1)
read_step true s out i h l fits room eh el inv = inv
read_step false s out i h l fits room eh el inv =
    let a : ℕ = slice_index s (2 * i) in
    let b : ℕ = slice_index s (2 * i + 1) in
    elim (digit a) [
      | good va ha sa ↦
          let ev = good_value a h va eh ha in
          let sh : h < 16 = omega (arith, ev, sa) in
          elim (digit b) [
            | good vb hb sb ↦
                let el2 = good_value b l vb el hb in
                let sl : l < 16 = omega (arith, el2, sb) in
                let value : h % 16 * 16 + l % 16 ≡ va * 16 + vb = omega (arith, ev, el2, sa, sb) in
                let r : Read false s (slice_set out i (va * 16 + vb)) (i + 1) =
                decode_step s out i (va * 16 + vb) fits room (pair_good a b (2 * i) va vb ha hb) inv in
                rw (both_small h l sh sl, value) r
            | bad hb ↦
                let r : is_ok (decode_pairs 0 s) ≡ false =
                refused s _ (decode_err s out i _ fits (pair_bad_second a b (2 * i) va ha hb) inv) in
                rw (second_large h l sh (bad_value b l el hb)) r
          ]
      | bad ha ↦
          let r : is_ok (decode_pairs 0 s) ≡ false =
          refused s _ (decode_err s out i _ fits (pair_bad_first a b (2 * i) ha) inv) in
          rw (first_large h l (bad_value a h eh ha)) r
    ]

-- all pairs: whether they are digits
pub read_tells : (wrong : Bool) (s out : List ℕ) (i : ℕ) → length out ≤ i → length s ≡ 2 * length out → Read wrong s out i
    → not wrong ≡ is_ok (decode_of s)
read_tells true s out i end twice inv = sym (ap is_ok (decode_of-even s (omega arith)) ∙ inv)
read_tells false s out i end twice inv =
    sym (ap is_ok (decode_of-even s (omega arith) ∙ decode_done s out i end (omega arith) inv))

-- all pairs: what they spell
pub read_spells : (wrong : Bool) (s out : List ℕ) (i : ℕ) → length out ≤ i → length s ≡ 2 * length out → Read wrong s out i
    → IsTrue (not wrong) → decode_of s ≡ Ok out
read_spells true s out i end twice inv h = cc h
read_spells false s out i end twice inv h = decode_of-even s (omega arith) ∙ decode_done s out i end (omega arith) inv

-- Keys of 32 bytes with one way are one.
use Rattle.std.proofs.Common.{◌≡◌, ℕ, zero, suc, ◌+◌, ◌-◌, ◌*◌, ◌/◌, ◌%◌, ◌^◌, ◌<◌, ◌==◌, Bool, true, false, if◌then◌else◌, List, ◌∷◌, length, get_or, reverse, inl, inr, refl, sym, ◌∙◌, ap, arith}
use Rattle.std.proofs.lemmas.Bool.{cases_lt, cases_eq}
use Rattle.std.proofs.lemmas.Bool.Decides.{Decides-eqb}
use Rattle.std.proofs.lemmas.List.{ext_get_or, reverse-reverse}
use Rattle.std.proofs.lemmas.Nat.Bits.{same_from_bits_below}
use Rattle.warg_merkle.specs.Trees.{Side, Left, Right}
use Rattle.warg_merkle.specs.SparseMap.Maps.{is_right, sides_up, way_down}

same_side : (a b : Bool) → Path Side (if a then Right else Left) (if b then Right else Left) → a ≡ b
same_side true true e = refl
same_side false false e = refl
same_side true false e = cc
same_side false true e = cc

same_head : (s t : Side) (ss ts : List Side) → s ∷ ss ≡ t ∷ ts → (s ≡ t) × (ss ≡ ts)
same_head s t ss ts e = (cc, cc)

same_bits : (n : ℕ) (k l : List ℕ) → sides_up n k ≡ sides_up n l → (i : ℕ) → i < n → is_right k i ≡ is_right l i
unfolding sides_up
same_bits zero k l e i below = absurd (omega arith)
same_bits (suc n) k l e i below =
    let both = same_head (if is_right k n then Right else Left) (if is_right l n then Right else Left) (sides_up n k) (sides_up n l) e in
    elim (cases_lt i n) [
      | inl less ↦ same_bits n k l both.1 i less
      | inr most ↦ let is : n ≡ i = omega arith in ap (is_right k) (sym is) ∙ same_side (is_right k n) (is_right l n) both.0 ∙ ap (is_right l) is
    ]

-- a bit from its test
same_bit : (a b : ℕ) → (a % 2 == 1) ≡ (b % 2 == 1) → a % 2 ≡ b % 2
same_bit a b e = elim (cases_eq (a % 2) 1) [
  | inl one ↦
      let test : (a % 2 == 1) ≡ true = (Decides-eqb (a % 2) 1).1 one in
      let other : b % 2 ≡ 1 = (Decides-eqb (b % 2) 1).0 (sym e ∙ test) in
      one ∙ sym other
  | inr zero_a ↦ elim (cases_eq (b % 2) 1) [
    | inl one ↦ absurd (zero_a ((Decides-eqb (a % 2) 1).0 (e ∙ (Decides-eqb (b % 2) 1).1 one)))
    | inr zero_b ↦ omega (arith, zero_a, zero_b)
  ]
]

-- the test at a depth is of the bit of a byte
at_bit : (k : ℕ) (key : List ℕ) (q j : ℕ) → k ≡ 8 * q + (7 - j) → j < 8 → is_right key k ≡ (get_or key q 0 / 2 ^ j % 2 == 1)
unfolding is_right
at_bit k key q j is few =
    let byte : k / 8 ≡ q = omega arith in
    let bit : 7 - k % 8 ≡ j = omega arith in
    ap (λ n. (get_or key n 0 / 2 ^ (7 - k % 8) % 2 == 1)) byte ∙ ap (λ n. (get_or key q 0 / 2 ^ n % 2 == 1)) bit

same_byte : (k l : List ℕ) → ((i : ℕ) → get_or k i 0 < 256) → ((i : ℕ) → get_or l i 0 < 256) → ((i : ℕ) → i < 256 → is_right k i ≡ is_right l i) → (q : ℕ) → q < 32 → get_or k q 0 ≡ get_or l q 0
same_byte k l hk hl same q below = same_from_bits_below 8 (get_or k q 0) (get_or l q 0) (hk q) (hl q) (λ j few.
    let e : is_right k (8 * q + (7 - j)) ≡ is_right l (8 * q + (7 - j)) = same (8 * q + (7 - j)) (omega arith) in
    same_bit (get_or k q 0 / 2 ^ j) (get_or l q 0 / 2 ^ j) (sym (at_bit (8 * q + (7 - j)) k q j refl few) ∙ e ∙ at_bit (8 * q + (7 - j)) l q j refl few))

pub one_key : (k l : List ℕ) → length k ≡ 32 → length l ≡ 32 → ((i : ℕ) → get_or k i 0 < 256) → ((i : ℕ) → get_or l i 0 < 256) → way_down k ≡ way_down l → k ≡ l
one_key k l nk nl hk hl e =
    let ups : sides_up 256 k ≡ sides_up 256 l = sym (reverse-reverse (sides_up 256 k)) ∙ ap reverse e ∙ reverse-reverse (sides_up 256 l) in
    ext_get_or 0 k l (nk ∙ sym nl) (λ i below. same_byte k l hk hl (same_bits 256 k l ups) i (omega arith))

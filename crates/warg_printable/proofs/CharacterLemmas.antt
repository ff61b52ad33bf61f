-- Characters that are hidden and those that are not, and the digits of numbers.
use Rattle.std.proofs.Common.{◌≡◌, ◌≢◌, ℕ, zero, suc, ◌/◌, ◌%◌, ◌==◌, ◌<◌, ◌≤◌, Bool, true, false, ◌||◌, cond, List, [], ◌∷◌, ◌++◌, refl, arith}
use Rattle.std.proofs.lemmas.Bool.{le-ltb, lt-leb, ltb-false}
use Rattle.std.proofs.lemmas.Bool.Decides.{nat_tests}
use Rattle.std.specs.Fmt.{digit_glyph, digits, digits_onto}
use Rattle.std.specs.Str.{NonePass}
use Rattle.warg_printable.specs.Characters.{is_control, is_from, is_hidden, number_escape}

pub or_false : (a b : Bool) → a ≡ false → b ≡ false → (a || b) ≡ false
or_false a b x y = rw (x, y) refl

-- where neither of two tests passes
pub or_left_false : (a b : Bool) → (a || b) ≡ false → a ≡ false
or_left_false true b e = cc e
or_left_false false b e = refl

pub or_right_false : (a b : Bool) → (a || b) ≡ false → b ≡ false
or_right_false true b e = cc e
or_right_false false b e = e

below : (low high c : ℕ) → c < low → is_from low high c ≡ false
below low high c h = rw (lt-leb low c h) refl

other : (c d : ℕ) → c < d → (c == d) ≡ false
other c d h = grind (arith, nat_tests)

small_rest : (c : ℕ) → c < 127 → c % 0x1_0000 < 0xFFFE
small_rest c h = omega arith

-- the characters of ASCII that print are not hidden
pub ascii_shown : (c : ℕ) → 32 ≤ c → c < 127 → is_hidden c ≡ false
unfolding is_hidden
ascii_shown c low high =
    or_false _ _
    (or_false _ _
    (or_false _ _ (or_false _ _ (le-ltb c 32 low) (below 127 159 c high)) (below 0x2028 0x2029 c (omega arith)))
    (or_false _ _
    (or_false _ _
    (or_false _ _ (or_false _ _ (other c 0x61C (omega arith)) (below 0x200E 0x200F c (omega arith))) (below 0x202A 0x202E c (omega arith)))
    (below 0x2066 0x2069 c (omega arith)))
    (other c 0xFEFF (omega arith))))
    (or_false _ _ (below 0xFDD0 0xFDEF c (omega arith)) (lt-leb 0xFFFE (c % 0x1_0000) (small_rest c high)))

del_hidden : is_hidden 127 ≡ true
unfolding is_hidden
del_hidden = refl

control_of : (c : ℕ) → is_hidden c ≡ false → is_control c ≡ false
unfolding is_hidden
control_of c h = or_left_false _ _ (or_left_false _ _ (or_left_false _ _ h))

not_both : true ≡ false → ⊥
not_both e = cc e

-- what is not hidden is no control character
pub shown_bounds : (c : ℕ) → is_hidden c ≡ false → (32 ≤ c) × (c ≢ 127)
shown_bounds c h = (
  ltb-false c 32 (or_left_false _ _ (control_of c h)),
  λ e. let at : is_hidden 127 ≡ false = rw e at h in not_both (let back : true ≡ is_hidden 127 = rw del_hidden refl in cc),
)

glyph_bounds : (d : ℕ) → d < 16 → (32 ≤ digit_glyph false d) × (digit_glyph false d < 127)
glyph_bounds d h = (grind (arith, nat_tests), grind (arith, nat_tests))

-- a hex digit is not hidden
pub glyph_shown : (d : ℕ) → d < 16 → is_hidden (digit_glyph false d) ≡ false
glyph_shown d h = let b = glyph_bounds d h in ascii_shown (digit_glyph false d) b.0 b.1

pub glyph_ascii : (d : ℕ) → d < 16 → digit_glyph false d < 128
glyph_ascii d h = let b = glyph_bounds d h in let fits : digit_glyph false d < 127 = b.1 in omega arith

-- a hex digit is no space
pub glyph_no_blank : (d : ℕ) → d < 16 → (digit_glyph false d == 32) ≡ false
glyph_no_blank d h = grind (arith, nat_tests)

module _ (p : ℕ → Bool) where
  pub none-append : (xs ys : List ℕ) → NonePass p xs → NonePass p ys → NonePass p (xs ++ ys)
  none-append [] ys h k = k
  none-append (x ∷ xs) ys h k = (h.0, none-append xs ys h.1 k)

  module _ (glyphs : (d : ℕ) → d < 16 → p (digit_glyph false d) ≡ false) where
    onto : (k n : ℕ) (acc : List ℕ) → NonePass p acc → NonePass p (digits_onto k 16 false n acc)
    onto zero n acc h = h
    onto (suc k) n acc h =
        let more : NonePass p (digit_glyph false (n % 16) ∷ acc) = (glyphs (n % 16) (omega arith), h) in
        elim (n / 16 == 0) as (λ b. NonePass p (cond b (digit_glyph false (n % 16) ∷ acc) (digits_onto k 16 false (n / 16) (digit_glyph false (n % 16) ∷ acc)))) [
          | true ↦ more
          | false ↦ onto k (n / 16) (digit_glyph false (n % 16) ∷ acc) more
        ]

    pub none-digits : (n : ℕ) → NonePass p (digits 16 false n)
    unfolding digits
    none-digits n = onto 64 n [] tt

    -- the signs of a number's escape
    pub none-escape : p 92 ≡ false → p 117 ≡ false → p 123 ≡ false → p 125 ≡ false → (c : ℕ) → NonePass p (number_escape c)
    none-escape a b d e c = (a, (b, (d, none-append (digits 16 false c) (125 ∷ []) (none-digits c) (e, tt))))

-- Texts with no hidden character: their parts, and what is put together of them.
use Rattle.std.proofs.Common.{◌≡◌, ℕ, zero, suc, ◌+◌, ◌-◌, ◌/◌, ◌%◌, ◌<◌, ◌≤◌, Bool, true, false, cond, not, List, [], ◌∷◌, ◌++◌, length, take, drop, get_or, refl, sym, ap, subst, ◌∙◌, arith, append-nil, zero-add, encode_utf8, encode_utf8_all, length-append}
use Rattle.std.specs.Prelude.{◌==◌, nat_lt}
use Rattle.std.specs.List.{AllByRecursion, join_with_byte, list_all, onto_first, position_or_len, slice_split}
use Rattle.std.specs.Str.{NonePass}
use Rattle.std.proofs.Math.Seq.{drop-append-add, take-append-add}
use Rattle.std.proofs.Math.Utf8.{encode}
use Rattle.std.proofs.lemmas.Bool.{le-ltb, ltb-false}
use Rattle.std.proofs.lemmas.Bool.Decides.{nat_tests}
use Rattle.std.proofs.lemmas.List.{get_or-append-add}
use Rattle.std.proofs.lemmas.Str.{encode_ascii, encodes-append}
use Rattle.warg_printable.specs.Characters.{is_hidden}
use Rattle.warg_printable.specs.Printable.{IsPrintable}
use Rattle.warg_printable.proofs.CharacterLemmas.{ascii_shown, none-append}
use Rattle.tool_layout.specs.Digests.{is_hex_digit}
use Rattle.tool_layout.specs.Logs.{spaces}
use Rattle.tool_layout.specs.Names.{is_space}
use Rattle.tool_layout.proofs.DigestLemmas.{and_left, and_right, below_of, hex_bounds, same_of}

-- ---- texts

pub shown-nil : IsPrintable []
shown-nil = ([], refl, tt)

pub shown-append : (a b : List ℕ) → IsPrintable a → IsPrintable b → IsPrintable (a ++ b)
shown-append a b x y = (
  x.0 ++ y.0,
  encodes-append x.0 y.0 ∙ ap (λ (l : List ℕ). l ++ encode_utf8_all y.0) x.1 ∙ ap (λ (l : List ℕ). a ++ l) y.1,
  none-append is_hidden x.0 y.0 x.2 y.2,
)

-- a sign of ASCII in front
pub shown-sign : (b : ℕ) (rest : List ℕ) → 32 ≤ b → b < 127 → IsPrintable rest → IsPrintable (b ∷ rest)
shown-sign b rest low high x =
    let small : b < 128 = omega arith in (
      b ∷ x.0,
      ap (λ (l : List ℕ). l ++ encode_utf8_all x.0) (encode_ascii b small) ∙ ap (λ (l : List ℕ). b ∷ l) x.1,
      (ascii_shown b low high, x.2),
    )

pub shown-hex : (n : ℕ) (digits : List ℕ) → list_all is_hex_digit digits ≡ true → IsPrintable (take n digits)
shown-hex zero digits h = shown-nil
shown-hex (suc n) [] h = shown-nil
shown-hex (suc n) (d ∷ ds) h =
    let bounds = hex_bounds d (and_left (is_hex_digit d) (list_all is_hex_digit ds) h) in
    shown-sign d (take n ds) bounds.0 bounds.1 (shown-hex n ds (and_right (is_hex_digit d) (list_all is_hex_digit ds) h))

pub shown-spaces : (count : ℕ) → IsPrintable (spaces count)
shown-spaces zero = shown-nil
shown-spaces (suc count) = shown-sign 32 (spaces count) (omega arith) (omega arith) (shown-spaces count)

-- one character
shown-char : (c : ℕ) → is_hidden c ≡ false → IsPrintable (encode_utf8 c)
shown-char c h = (c ∷ [], append-nil (encode_utf8 c), (h, tt))

-- ---- bytes of characters

AreHigh : List ℕ → Type 0
AreHigh bs = AllByRecursion (λ (b : ℕ). 128 ≤ b) bs

high-cases : (c : ℕ) (x y : Bool)
    → AreHigh (cond x ((192 + c / 64) ∷ (128 + c % 64) ∷ []) (cond y ((224 + c / 4096) ∷ (128 + c / 64 % 64) ∷ (128 + c % 64) ∷ [])
    ((240 + c / 262144) ∷ (128 + c / 4096 % 64) ∷ (128 + c / 64 % 64) ∷ (128 + c % 64) ∷ [])))
unfolding AreHigh
high-cases c true y = (omega arith, (omega arith, tt))
high-cases c false true = (omega arith, (omega arith, (omega arith, tt)))
high-cases c false false = (omega arith, (omega arith, (omega arith, (omega arith, tt))))

-- the bytes of a character beyond ASCII
encode-high : (c : ℕ) → 128 ≤ c → AreHigh (encode_utf8 c)
unfolding encode
encode-high c large = rw (le-ltb c 128 large) (high-cases c (nat_lt c 2048) (nat_lt c 65536))

not_space : (b : ℕ) → 128 ≤ b → (b == 32) ≡ false
not_space b large = grind (arith, nat_tests)

none-high : (bs : List ℕ) → AreHigh bs → NonePass is_space bs
unfolding AreHigh
none-high [] h = tt
none-high (b ∷ bs) h = (not_space b h.0, none-high bs h.1)

-- no byte of a character is a space, unless the character is one
none-space : (c : ℕ) (small : Bool) → nat_lt c 128 ≡ small → (c == 32) ≡ false → NonePass is_space (encode_utf8 c)
none-space c true e other =
    let below : c < 128 = below_of c 128 e in
    rw (encode_ascii c below) (other, tt)
none-space c false e other = let large : 128 ≤ c = ltb-false c 128 e in none-high (encode_utf8 c) (encode-high c large)

-- ---- where a text is cut at its first space

position-past : (xs ys : List ℕ) → NonePass is_space xs → position_or_len is_space (xs ++ ys) ≡ length xs + position_or_len is_space ys
position-past [] ys h = sym (zero-add (position_or_len is_space ys))
position-past (x ∷ xs) ys h =
    let more = position-past xs ys h.1 in
    ap (λ (b : Bool). cond (not b) (1 + position_or_len is_space (xs ++ ys)) 0) h.0 ∙ (omega arith)

-- the parts before a place, from it on, and behind it have no hidden character
pub record AreShown (text : List ℕ) (place : ℕ) : Type 0 where
  pub before : IsPrintable (take place text)
  pub onward : IsPrintable (drop place text)
  pub behind : IsPrintable (drop (place + 1) text)

at_space : (rest : List ℕ) → IsPrintable rest → AreShown (32 ∷ rest) 0
at_space rest x = record { before = shown-nil; onward = shown-sign 32 rest (omega arith) (omega arith) x; behind = x }

past : (front rest : List ℕ) (place : ℕ) → IsPrintable front → AreShown rest place → AreShown (front ++ rest) (length front + place)
past front rest place x parts = record {
  before = subst IsPrintable (sym (take-append-add front rest place)) (shown-append front (take place rest) x parts.before);
  onward = subst IsPrintable (sym (drop-append-add front rest place)) parts.onward;
  behind = subst IsPrintable (sym (ap (λ (n : ℕ). drop n (front ++ rest)) (let e : length front + place + 1 ≡ length front + (place + 1) = omega arith in e) ∙ drop-append-add front rest (place + 1))) parts.behind;
}

cut-char : (c : ℕ) (rest : List ℕ) (space : Bool) → (c == 32) ≡ space → is_hidden c ≡ false → IsPrintable rest → AreShown rest (position_or_len is_space rest)
    → AreShown (encode_utf8 c ++ rest) (position_or_len is_space (encode_utf8 c ++ rest))
cut-char c rest true e shown x parts =
    let is : c ≡ 32 = same_of c 32 e in
    let bytes : encode_utf8 c ++ rest ≡ 32 ∷ rest = ap (λ (l : List ℕ). l ++ rest) (ap encode_utf8 is ∙ encode_ascii 32 (omega arith)) in
    subst (λ (text : List ℕ). AreShown text (position_or_len is_space text)) (sym bytes) (at_space rest x)
cut-char c rest false e shown x parts =
    subst (AreShown (encode_utf8 c ++ rest)) (sym (position-past (encode_utf8 c) rest (none-space c (nat_lt c 128) refl e)))
    (past (encode_utf8 c) rest (position_or_len is_space rest) (shown-char c shown) parts)

cut-all : (cs : List ℕ) → NonePass is_hidden cs → AreShown (encode_utf8_all cs) (position_or_len is_space (encode_utf8_all cs))
cut-all [] h = record { before = shown-nil; onward = shown-nil; behind = shown-nil }
cut-all (c ∷ cs) h = cut-char c (encode_utf8_all cs) (c == 32) refl h.0 (cs, refl, h.1) (cut-all cs h.1)

-- the parts of a text that is cut at its first space
pub shown-cut : (text : List ℕ) → IsPrintable text → AreShown text (position_or_len is_space text)
shown-cut text x = subst (λ (it : List ℕ). AreShown it (position_or_len is_space it)) x.1 (cut-all x.0 x.2)

-- ---- the words of a text

onto_front : List ℕ → List (List ℕ) → List (List ℕ)
onto_front [] parts = parts
onto_front (x ∷ xs) parts = onto_first x (onto_front xs parts)

onto_front-cons : (xs part : List ℕ) (parts : List (List ℕ)) → onto_front xs (part ∷ parts) ≡ (xs ++ part) ∷ parts
unfolding onto_front
onto_front-cons [] part parts = refl
onto_front-cons (x ∷ xs) part parts = ap (onto_first x) (onto_front-cons xs part parts)

split-past : (xs ys : List ℕ) → NonePass is_space xs → slice_split is_space (xs ++ ys) ≡ onto_front xs (slice_split is_space ys)
unfolding onto_front
split-past [] ys h = refl
split-past (x ∷ xs) ys h =
    ap (λ (b : Bool). cond b ([] ∷ slice_split is_space (xs ++ ys)) (onto_first x (slice_split is_space (xs ++ ys)))) h.0
    ∙ ap (onto_first x) (split-past xs ys h.1)

-- some parts, none with a hidden character
record SomeShown (parts : List (List ℕ)) : Type 0 where
  first : List ℕ
  more : List (List ℕ)
  are : parts ≡ first ∷ more
  shown : IsPrintable first
  others : AllByRecursion IsPrintable more

all-shown : (parts : List (List ℕ)) → SomeShown parts → AllByRecursion IsPrintable parts
all-shown parts some = subst (AllByRecursion IsPrintable) (sym some.are) (some.shown, some.others)

split-char : (c : ℕ) (rest : List ℕ) (space : Bool) → (c == 32) ≡ space → is_hidden c ≡ false → SomeShown (slice_split is_space rest)
    → SomeShown (slice_split is_space (encode_utf8 c ++ rest))
split-char c rest true e shown some =
    let is : c ≡ 32 = same_of c 32 e in
    record {
      first = [];
      more = slice_split is_space rest;
      are = ap (λ (l : List ℕ). slice_split is_space (l ++ rest)) (ap encode_utf8 is ∙ encode_ascii 32 (omega arith));
      shown = shown-nil;
      others = all-shown (slice_split is_space rest) some;
    }
split-char c rest false e shown some = record {
  first = encode_utf8 c ++ some.first;
  more = some.more;
  are = split-past (encode_utf8 c) rest (none-space c (nat_lt c 128) refl e) ∙ ap (onto_front (encode_utf8 c)) some.are
      ∙ onto_front-cons (encode_utf8 c) some.first some.more;
  shown = shown-append (encode_utf8 c) some.first (shown-char c shown) some.shown;
  others = some.others;
}

split-all : (cs : List ℕ) → NonePass is_hidden cs → SomeShown (slice_split is_space (encode_utf8_all cs))
split-all [] h = record { first = []; more = []; are = refl; shown = shown-nil; others = tt }
split-all (c ∷ cs) h = split-char c (encode_utf8_all cs) (c == 32) refl h.0 (split-all cs h.1)

-- the words of a text
pub shown-words : (text : List ℕ) → IsPrintable text → AllByRecursion IsPrintable (slice_split is_space text)
shown-words text x =
    subst (λ (it : List ℕ). AllByRecursion IsPrintable (slice_split is_space it)) x.1 (all-shown (slice_split is_space (encode_utf8_all x.0)) (split-all x.0 x.2))

-- words with a space between
pub shown-join : (words : List (List ℕ)) → AllByRecursion IsPrintable words → IsPrintable (join_with_byte 32 words)
shown-join [] h = shown-nil
shown-join (word ∷ []) h = h.0
shown-join (word ∷ next ∷ more) h =
    shown-append word (32 ∷ join_with_byte 32 (next ∷ more)) h.0
    (shown-sign 32 (join_with_byte 32 (next ∷ more)) (omega arith) (omega arith) (shown-join (next ∷ more) h.1))

-- ---- a text before its last comma

length-last : (a b : List ℕ) → 0 < length b → length (a ++ b) - 1 ≡ length a + (length b - 1)
length-last a b some = let whole = length-append a b in omega arith

-- the last of two lists, one behind the other
last-append : (a b : List ℕ) → 0 < length b → get_or (a ++ b) (length (a ++ b) - 1) 0 ≡ get_or b (length b - 1) 0
last-append a b some = ap (λ (n : ℕ). get_or (a ++ b) n 0) (length-last a b some) ∙ get_or-append-add a b (length b - 1) 0

last-high : (bs : List ℕ) → 0 < length bs → AreHigh bs → 128 ≤ get_or bs (length bs - 1) 0
unfolding AreHigh
last-high [] some h = absurd (omega arith)
last-high (b ∷ []) some h = h.0
last-high (b ∷ next ∷ more) some h =
    let any : 0 < length (next ∷ more) = omega arith in
    subst (λ (n : ℕ). 128 ≤ n) (sym (last-append (b ∷ []) (next ∷ more) any)) (last-high (next ∷ more) any h.1)

some-bytes : (c : ℕ) (x y z : Bool) → 0 < length (cond x (c ∷ []) (cond y ((192 + c / 64) ∷ (128 + c % 64) ∷ []) (cond z ((224 + c / 4096) ∷ (128 + c / 64 % 64) ∷ (128 + c % 64) ∷ [])
    ((240 + c / 262144) ∷ (128 + c / 4096 % 64) ∷ (128 + c / 64 % 64) ∷ (128 + c % 64) ∷ []))))
some-bytes c true y z = omega arith
some-bytes c false true z = omega arith
some-bytes c false false true = omega arith
some-bytes c false false false = omega arith

encode-some : (c : ℕ) → 0 < length (encode_utf8 c)
unfolding encode
encode-some c = some-bytes c (nat_lt c 128) (nat_lt c 2048) (nat_lt c 65536)

-- a last character that is a comma
one-left : (c : ℕ) (small : Bool) → nat_lt c 128 ≡ small → get_or (encode_utf8 c) (length (encode_utf8 c) - 1) 0 ≡ 44
    → IsPrintable (take (length (encode_utf8 c) - 1) (encode_utf8 c))
one-left c true e comma =
    let below : c < 128 = below_of c 128 e in
    subst (λ (bs : List ℕ). IsPrintable (take (length bs - 1) bs)) (sym (encode_ascii c below)) shown-nil
one-left c false e comma =
    let large : 128 ≤ c = ltb-false c 128 e in
    let last : 128 ≤ get_or (encode_utf8 c) (length (encode_utf8 c) - 1) 0 = last-high (encode_utf8 c) (encode-some c) (encode-high c large) in
    absurd (omega arith)

before-last : (cs : List ℕ) → NonePass is_hidden cs → get_or (encode_utf8_all cs) (length (encode_utf8_all cs) - 1) 0 ≡ 44
    → IsPrintable (take (length (encode_utf8_all cs) - 1) (encode_utf8_all cs))
before-last [] h comma = shown-nil
before-last (c ∷ []) h comma =
    let only : encode_utf8_all (c ∷ []) ≡ encode_utf8 c = append-nil (encode_utf8 c) in
    subst (λ (bs : List ℕ). IsPrintable (take (length bs - 1) bs)) (sym only)
    (one-left c (nat_lt c 128) refl (subst (λ (bs : List ℕ). get_or bs (length bs - 1) 0 ≡ 44) only comma))
before-last (c ∷ d ∷ more) h comma =
    let rest : List ℕ = encode_utf8_all (d ∷ more) in
    let some : 0 < length rest = let first = encode-some d in let both = length-append (encode_utf8 d) (encode_utf8_all more) in omega arith in
    let at : get_or rest (length rest - 1) 0 ≡ 44 = sym (last-append (encode_utf8 c) rest some) ∙ comma in
    subst IsPrintable (sym (ap (λ (n : ℕ). take n (encode_utf8 c ++ rest)) (length-last (encode_utf8 c) rest some) ∙ take-append-add (encode_utf8 c) rest (length rest - 1)))
    (shown-append (encode_utf8 c) (take (length rest - 1) rest) (shown-char c h.0) (before-last (d ∷ more) h.1 at))

-- what stands before a comma at the end
pub shown-before_comma : (text : List ℕ) → IsPrintable text → get_or text (length text - 1) 0 ≡ 44 → IsPrintable (take (length text - 1) text)
shown-before_comma text x comma =
    subst (λ (it : List ℕ). IsPrintable (take (length it - 1) it)) x.1
    (before-last x.0 x.2 (subst (λ (it : List ℕ). get_or it (length it - 1) 0 ≡ 44) (sym x.1) comma))

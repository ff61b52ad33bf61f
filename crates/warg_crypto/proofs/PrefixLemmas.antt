-- LEB128 and prefix encoding.
use Rattle.std.proofs.Common.{◌≡◌, ℕ, suc, zero, ◌+◌, ◌*◌, ◌/◌, ◌%◌, ◌^◌, ◌≤◌, ◌<◌, List, [], ◌∷◌, ◌++◌, length, true, false, ltb, inl, inr, refl, sym, ap, ◌∙◌, append_assoc, arith, length-append, length-take, take}
use Rattle.std.proofs.Math.Nat.{pow-suc}
use Rattle.std.proofs.lemmas.Bool.{lt-ltb, le-ltb, cases_lt}
use Rattle.warg_crypto.specs.Prefix.{groups_of, unsigned_of, str_of, EndsOnce, base_128, IsLeb128}

-- any bound that is large enough will do
same_groups : (m n v : ℕ) → v ≤ m → v ≤ n → groups_of m v ≡ groups_of n v
unfolding groups_of
same_groups zero zero v a b = refl
same_groups zero (suc n) v a b = let t : ltb v 128 ≡ true = lt-ltb v 128 (omega arith) in rw t refl
same_groups (suc m) zero v a b = let t : ltb v 128 ≡ true = lt-ltb v 128 (omega arith) in rw t refl
same_groups (suc m) (suc n) v a b =
    elim (cases_lt v 128) [
      | inl lt ↦ let t : ltb v 128 ≡ true = lt-ltb v 128 lt in rw t refl
      | inr le ↦ let t : ltb v 128 ≡ false = le-ltb v 128 le in rw t (ap (λ (ds : List ℕ). (v % 128 + 128) ∷ ds) (same_groups m n (v / 128) (omega arith) (omega arith)))
    ]

pub one_group : (v : ℕ) → v < 128 → unsigned_of v ≡ v ∷ []
unfolding unsigned_of groups_of
one_group zero lt = refl
one_group (suc v) lt = let t : ltb (suc v) 128 ≡ true = lt-ltb (suc v) 128 lt in rw t refl

pub more_groups : (v : ℕ) → 128 ≤ v → unsigned_of v ≡ (v % 128 + 128) ∷ unsigned_of (v / 128)
unfolding unsigned_of groups_of
more_groups zero le = absurd (omega arith)
more_groups (suc v) le =
    let t : ltb (suc v) 128 ≡ false = le-ltb (suc v) 128 le in
    rw t (ap (λ (ds : List ℕ). (suc v % 128 + 128) ∷ ds) (same_groups v (suc v / 128) (suc v / 128) (omega arith) (omega arith)))

-- a number of n + 1 groups takes n + 1 bytes at most
length-unsigned_of : (n v : ℕ) → v < 128 ^ suc n → length (unsigned_of v) ≤ suc n
length-unsigned_of zero v lt = rw (one_group v (omega arith)) (omega arith)
length-unsigned_of (suc n) v lt =
    elim (cases_lt v 128) [
      | inl small ↦ rw (one_group v small) (omega arith)
      | inr large ↦
          let p : 128 ^ suc (suc n) ≡ 128 ^ suc n * 128 = pow-suc 128 (suc n) in
          let below : v / 128 < 128 ^ suc n = omega arith in
          let h = length-unsigned_of n (v / 128) below in
          rw (more_groups v large) (omega (arith, h))
    ]

-- a number of 64 bits takes ten bytes at most
pub length-unsigned_of-u64 : (v : ℕ) → v < 2 ^ 64 → length (unsigned_of v) ≤ 10
length-unsigned_of-u64 v lt = length-unsigned_of 9 v (omega arith)

-- a number takes a byte at least
pub unsigned_of-some : (v : ℕ) → 1 ≤ length (unsigned_of v)
unsigned_of-some v =
    elim (cases_lt v 128) [
      | inl small ↦ rw (one_group v small) (omega arith)
      | inr large ↦ rw (more_groups v large) (omega arith)
    ]

-- what is written so far and what is left fit the ten bytes
pub length-front : (len rest number : ℕ) (buffer : List ℕ) → length buffer ≡ 10 → len ≤ 10 → number < 2 ^ 64
    → take len buffer ++ unsigned_of rest ≡ unsigned_of number → len + length (unsigned_of rest) ≤ 10
length-front len rest number buffer ten inside lt so_far =
    let whole : length (take len buffer) + length (unsigned_of rest) ≡ length (unsigned_of number) = sym (length-append (take len buffer) (unsigned_of rest)) ∙ ap length so_far in
    omega (arith, whole, length-take len buffer, length-unsigned_of-u64 number lt)

-- where more than a group is left, two bytes more fit
pub room : (len rest number : ℕ) (buffer : List ℕ) → length buffer ≡ 10 → len ≤ 10 → number < 2 ^ 64
    → take len buffer ++ unsigned_of rest ≡ unsigned_of number → 128 ≤ rest → len < 9
room len rest number buffer ten inside lt so_far large =
    let more : length (unsigned_of rest) ≡ suc (length (unsigned_of (rest / 128))) = ap length (more_groups rest large) in
    omega (arith, more, unsigned_of-some (rest / 128), length-front len rest number buffer ten inside lt so_far)

-- of two that end once, none is a proper beginning of the other
pub EndsOnce-same : (a b r s : List ℕ) → EndsOnce a → EndsOnce b → a ++ r ≡ b ++ s → (a ≡ b) × (r ≡ s)
EndsOnce-same [] b r s ea eb e = absurd ea
EndsOnce-same (x ∷ a) [] r s ea eb e = absurd eb
EndsOnce-same (x ∷ a) (y ∷ b) r s (inl (small, a_ends)) (inl (small', b_ends)) e =
    let next : a ++ r ≡ b ++ s = cc in
    let left : a ++ r ≡ r = ap (λ (l : List ℕ). l ++ r) a_ends in
    let right : b ++ s ≡ s = ap (λ (l : List ℕ). l ++ s) b_ends in
    (cc, cc)
EndsOnce-same (x ∷ a) (y ∷ b) r s (inl (small, a_ends)) (inr (large, eb)) e =
    let same : x ≡ y = cc in absurd (omega arith)
EndsOnce-same (x ∷ a) (y ∷ b) r s (inr (large, ea)) (inl (small, b_ends)) e =
    let same : x ≡ y = cc in absurd (omega arith)
EndsOnce-same (x ∷ a) (y ∷ b) r s (inr (large, ea)) (inr (large', eb)) e =
    let h = EndsOnce-same a b r s ea eb cc in
    let front : a ≡ b = h.0 in
    (cc, h.1)

IsLeb128-below : (n v : ℕ) → v ≤ n → IsLeb128 (unsigned_of v) v
IsLeb128-below zero v le = rw (one_group v (omega arith)) (record { ends = inl (omega arith, refl); value_is = omega arith })
IsLeb128-below (suc n) v le =
    elim (cases_lt v 128) [
      | inl small ↦ rw (one_group v small) (record { ends = inl (small, refl); value_is = omega arith })
      | inr large ↦
          let h = IsLeb128-below n (v / 128) (omega arith) in
          rw (more_groups v large) (record { ends = inr (omega arith, h.ends); value_is = omega (arith, h.value_is) })
    ]

-- the bytes of a number are a LEB128 of it
pub IsLeb128-unsigned_of : (v : ℕ) → IsLeb128 (unsigned_of v) v
IsLeb128-unsigned_of v = IsLeb128-below v v (omega arith)

shortest_below : (n v : ℕ) (bytes : List ℕ) → v ≤ n → EndsOnce bytes → base_128 bytes ≡ v → length (unsigned_of v) ≤ length bytes
shortest_below n v [] le ends value_is = absurd ends
shortest_below n v (x ∷ bs) le (inl (small, last)) value_is =
    let none : base_128 bs ≡ 0 = ap base_128 last in
    rw (one_group v (omega arith)) (omega arith)
shortest_below zero v (x ∷ bs) le (inr (large, ends)) value_is = rw (one_group v (omega arith)) (omega arith)
shortest_below (suc n) v (x ∷ bs) le (inr (large, ends)) value_is =
    elim (cases_lt v 128) [
      | inl small ↦ rw (one_group v small) (omega arith)
      | inr more ↦
          let h = shortest_below n (v / 128) bs (omega arith) ends (omega arith) in
          rw (more_groups v more) (omega (arith, h))
    ]

-- no LEB128 of a number is shorter
pub unsigned_of-shortest : (v : ℕ) (bytes : List ℕ) → IsLeb128 bytes v → length (unsigned_of v) ≤ length bytes
unsigned_of-shortest v bytes is = shortest_below v v bytes (omega arith) is.ends is.value_is

-- what begins with the bytes of a number begins with those of no other
pub unsigned_of-same : (v w : ℕ) (r s : List ℕ) → unsigned_of v ++ r ≡ unsigned_of w ++ s → (v ≡ w) × (r ≡ s)
unsigned_of-same v w r s e =
    let left = IsLeb128-unsigned_of v in
    let right = IsLeb128-unsigned_of w in
    let h = EndsOnce-same (unsigned_of v) (unsigned_of w) r s left.ends right.ends e in
    (sym left.value_is ∙ ap base_128 h.0 ∙ right.value_is, h.1)

texts_same : (t u r s : List ℕ) → length t ≡ length u → t ++ r ≡ u ++ s → (t ≡ u) × (r ≡ s)
texts_same [] [] r s len e = (refl, e)
texts_same [] (y ∷ u) r s len e = absurd (omega arith)
texts_same (x ∷ t) [] r s len e = absurd (omega arith)
texts_same (x ∷ t) (y ∷ u) r s len e =
    let h = texts_same t u r s (omega arith) cc in
    let front : t ≡ u = h.0 in
    (cc, h.1)

-- the same for texts behind their lengths
pub str_of-same : (t u r s : List ℕ) → str_of t ++ r ≡ str_of u ++ s → (t ≡ u) × (r ≡ s)
str_of-same t u r s e =
    let apart : unsigned_of (length t) ++ (t ++ r) ≡ unsigned_of (length u) ++ (u ++ s) = sym (append_assoc (unsigned_of (length t)) t r) ∙ e ∙ append_assoc (unsigned_of (length u)) u s in
    let h = unsigned_of-same (length t) (length u) (t ++ r) (u ++ s) apart in
    texts_same t u r s h.0 h.1

-- Short forms, and the paths that have them.
use Rattle.std.proofs.Common.{◌≡◌, ◌↔◌, ℕ, zero, suc, ◌*◌, ◌/◌, ◌<◌, ◌≤◌, true, IsTrue, List, [], ◌∷◌, ◌++◌, length, get_or, take, drop, reverse, if◌then◌else◌, inl, inr, refl, sym, ◌∙◌, ap, subst, arith}
use Rattle.std.specs.List.{All, concat}
use Rattle.std.specs.Simd.{first_chunks}
use Rattle.std.proofs.lemmas.List.{length-append, length-drop, length-take, take_at, drop_at, take-append-drop, get_or-take, get_or_past}
use Rattle.std.proofs.lemmas.Bool.{cases_Bool, cases_lt}
use Rattle.warg_merkle.specs.Trees.{Left, Right}
use Rattle.warg_merkle.specs.SparseMap.Maps.{is_right, sides_up, empty_root}
use Rattle.warg_merkle.proofs.SparseMapLemmas.Ways.{one_key}
use Rattle.warg_merkle.specs.MapProof.ShortForms.{is_left_out, others_count, short_form_len, others_in, others_of, siblings, full_path, IsCanonical, AreParts, IsShortForm, IsShort, path_of}
use Rattle.warg_merkle.proofs.MapProofLemmas.Shortness.{length-others_of, all_others_of, all_siblings, length-siblings, others_of-siblings, bits_say, SayOf, siblings-others_of, canonical-others_of}
use Rattle.warg_merkle.proofs.MapProofLemmas.Chunks.{length-concat, chunks-concat, concat-chunks, all_chunks}

same_sides : (n : ℕ) (k l : List ℕ) → ((i : ℕ) → i < n → is_right k i ≡ is_right l i) → sides_up n k ≡ sides_up n l
unfolding sides_up
same_sides zero k l same = refl
same_sides (suc n) k l same =
    ap (λ b. (if b then Right else Left) ∷ sides_up n k) (same n (omega arith)) ∙ ap (λ ss. (if is_right l n then Right else Left) ∷ ss) (same_sides n k l (λ i below. same i (omega arith)))

-- at most a hash for each height
count_few : (n h : ℕ) (bits : List ℕ) → others_count n h bits ≤ n
unfolding others_count
count_few zero h bits = omega arith
count_few (suc n) h bits = elim (cases_Bool (is_right bits h)) [
  | inl out ↦ rw out (omega (arith, count_few n (suc h) bits))
  | inr stays ↦ rw stays (omega (arith, count_few n (suc h) bits))
]

pub short_few : (bytes : List ℕ) → short_form_len bytes ≤ 8224
short_few bytes = omega (arith, count_few 256 0 (take 32 bytes))

-- the hashes behind the bits
pub others_in-form : (bits : List ℕ) (os : List (List ℕ)) → length bits ≡ 32 → All (λ p. length p ≡ 32) os → others_in (bits ++ concat os) ≡ os
others_in-form bits os size hs =
    let rest : drop 32 (bits ++ concat os) ≡ concat os = drop_at bits (concat os) 32 size in
    let long : length (concat os) ≡ 32 * length os = length-concat os hs in
    let count : length (concat os) / 32 ≡ length os = omega arith in
    ap (λ (r : List ℕ). first_chunks 32 (length r / 32) r) rest ∙ ap (λ k. first_chunks 32 k (concat os)) count ∙ chunks-concat os hs

pub byte_of_take : (bytes : List ℕ) → ((i : ℕ) → get_or bytes i 0 < 256) → (i : ℕ) → get_or (take 32 bytes) i 0 < 256
byte_of_take bytes hb i = elim (cases_lt i 32) [
  | inl inside ↦ rw (get_or-take 32 bytes i 0 inside) (hb i)
  | inr past ↦ rw (get_or_past (take 32 bytes) i 0 (omega (arith, length-take 32 bytes))) (omega arith)
]

module _ (hash : List ℕ → List ℕ) where
  -- the bits and the others are the short form of what they stand for
  pub form : (bits : List ℕ) (os : List (List ℕ)) → AreParts hash bits os → IsShortForm hash (full_path hash bits os) (bits ++ concat os)
  unfolding full_path
  form bits os parts =
      let long = parts.size in
      let c = parts.canonical in
      let front : take 32 (bits ++ concat os) ≡ bits = take_at bits (concat os) 32 long in
      record {
        heights = length-siblings hash 256 0 bits os;
        whole = omega (arith, length-append bits (concat os));
        bits = λ height below. rw front (bits_say hash 256 0 bits os c height height (omega arith) below);
        others = drop_at bits (concat os) 32 long ∙ ap concat (sym (others_of-siblings hash 256 0 bits os c)) ∙ ap (λ b. concat (others_of 0 b (siblings hash 256 0 bits os))) (sym front);
      }

  -- what a short form says of its path
  pub say : (path : List (List ℕ)) (bytes : List ℕ) → IsShortForm hash path bytes → SayOf hash (take 32 bytes) 0 path
  say path bytes f = record { say = λ i k at below. let is : k ≡ i = omega arith in let long = f.heights in rw is (f.bits i (omega arith)) }

  pub say_all : (path : List (List ℕ)) (bits : List ℕ) → length path ≡ 256 → ((h : ℕ) → h < 256 → IsTrue (is_left_out bits h) ↔ (get_or path h [] ≡ empty_root hash h)) → SayOf hash bits 0 path
  say_all path bits long s = record { say = λ i k at below. let is : k ≡ i = omega arith in rw is (s i (omega arith)) }

  -- the path of some bits and others that are its own
  pub full : (path : List (List ℕ)) (bits : List ℕ) (os : List (List ℕ)) → length path ≡ 256 → SayOf hash bits 0 path → os ≡ others_of 0 bits path → full_path hash bits os ≡ path
  unfolding full_path
  full path bits os long s is = ap (λ o. siblings hash 256 0 bits o) is ∙ ap (λ n. siblings hash n 0 bits (others_of 0 bits path)) (sym long) ∙ siblings-others_of hash path 0 bits s

  pub full_canonical : (path : List (List ℕ)) (bits : List ℕ) (os : List (List ℕ)) → length path ≡ 256 → SayOf hash bits 0 path → os ≡ others_of 0 bits path → IsCanonical hash 256 0 bits os
  full_canonical path bits os long s is = rw is (let P : ℕ → Type 0 = λ n. IsCanonical hash n 0 bits (others_of 0 bits path) in subst P long (canonical-others_of hash path 0 bits s))

  pub full_parts : (path : List (List ℕ)) (bits : List ℕ) (os : List (List ℕ)) → length path ≡ 256 → length bits ≡ 32 → All (λ p. length p ≡ 32) path → SayOf hash bits 0 path → os ≡ others_of 0 bits path → AreParts hash bits os
  full_parts path bits os long size hs s is = record { size = size; hashes = rw is (all_others_of path 0 bits hs); canonical = full_canonical path bits os long s is }

  -- a short form's length is what its bits call for
  pub form_len : (path : List (List ℕ)) (bytes : List ℕ) → All (λ p. length p ≡ 32) path → IsShortForm hash path bytes → length bytes ≡ short_form_len bytes
  form_len path bytes hs f =
      let bits = take 32 bytes in
      let rest : length (drop 32 bytes) ≡ 32 * length (others_of 0 bits path) = ap length f.others ∙ length-concat (others_of 0 bits path) (all_others_of path 0 bits hs) in
      let count : length (others_of 0 bits path) ≡ others_count 256 0 bits = length-others_of path 0 bits ∙ ap (λ n. others_count n 0 bits) f.heights in
      let whole = f.whole in
      omega (arith, rest, count, whole, length-drop 32 bytes)

  -- the others of a path are its short form's chunks
  pub form_chunks : (path : List (List ℕ)) (bytes : List ℕ) (k : ℕ) → All (λ p. length p ≡ 32) path → IsShortForm hash path bytes → length (drop 32 bytes) ≡ 32 * k → first_chunks 32 k (drop 32 bytes) ≡ others_of 0 (take 32 bytes) path
  form_chunks path bytes k hs f long =
      let os = others_of 0 (take 32 bytes) path in
      let all = all_others_of path 0 (take 32 bytes) hs in
      let n : length os ≡ k = omega (arith, long, ap length f.others, length-concat os all) in
      ap (first_chunks 32 k) f.others ∙ ap (λ m. first_chunks 32 m (concat os)) (sym n) ∙ chunks-concat os all

  -- the parts of bytes that are canonical
  pub parts : (bytes bits rest : List ℕ) (os : List (List ℕ)) (k : ℕ) → bits ≡ take 32 bytes → 32 ≤ length bytes → length rest ≡ 32 * k → os ≡ first_chunks 32 k rest → IsCanonical hash 256 0 bits os → AreParts hash bits os
  parts bytes bits rest os k front whole long cut c = record {
    size = omega (arith, ap length front, length-take 32 bytes);
    hashes = rw cut (all_chunks k rest (omega arith));
    canonical = c;
  }

  -- bytes of the length that their bits call for are a short form where they are canonical, and else of no path
  pub accept : (bytes bits rest : List ℕ) (os : List (List ℕ)) (k : ℕ) → bits ≡ take 32 bytes → rest ≡ drop 32 bytes → 32 ≤ length bytes → length rest ≡ 32 * k → os ≡ first_chunks 32 k rest → IsCanonical hash 256 0 bits os → IsShortForm hash (full_path hash bits os) bytes
  accept bytes bits rest os k front back whole long cut c =
      let same : bits ++ concat os ≡ bytes = ap (λ o. bits ++ concat o) cut ∙ ap (λ ys. bits ++ ys) (concat-chunks k rest long) ∙ ap (λ b. b ++ rest) front ∙ ap (λ r. take 32 bytes ++ r) back ∙ take-append-drop 32 bytes in
      rw same at (form bits os (parts bytes bits rest os k front whole long cut c))

  pub refuse : (bytes bits rest : List ℕ) (os : List (List ℕ)) (k : ℕ) → bits ≡ take 32 bytes → rest ≡ drop 32 bytes → length rest ≡ 32 * k → os ≡ first_chunks 32 k rest → ¬ IsCanonical hash 256 0 bits os → (path : List (List ℕ)) → All (λ p. length p ≡ 32) path → ¬ IsShortForm hash path bytes
  refuse bytes bits rest os k front back long cut differs path hs f =
      let back_long : length (drop 32 bytes) ≡ 32 * k = ap length (sym back) ∙ long in
      let own : os ≡ others_of 0 bits path = cut ∙ ap (first_chunks 32 k) back ∙ form_chunks path bytes k hs f back_long ∙ ap (λ b. others_of 0 b path) (sym front) in
      differs (full_canonical path bits os f.heights (rw front (say path bytes f)) own)

  pub all_full : ((m : List ℕ) → length (hash m) ≡ 32) → (bits : List ℕ) (os : List (List ℕ)) → AreParts hash bits os → All (λ p. length p ≡ 32) (full_path hash bits os)
  unfolding full_path
  all_full long bits os parts = all_siblings hash long 256 0 bits os parts.canonical parts.hashes

  -- the path of a short form, from the bytes alone
  path_of_form : (path : List (List ℕ)) (bytes : List ℕ) (k : ℕ) → All (λ p. length p ≡ 32) path → IsShortForm hash path bytes → length (drop 32 bytes) ≡ 32 * k → full_path hash (take 32 bytes) (first_chunks 32 k (drop 32 bytes)) ≡ path
  path_of_form path bytes k hs f long = full path (take 32 bytes) (first_chunks 32 k (drop 32 bytes)) f.heights (say path bytes f) (form_chunks path bytes k hs f long)

  pub one_path : (path other : List (List ℕ)) (bytes : List ℕ) → All (λ p. length p ≡ 32) path → All (λ p. length p ≡ 32) other → IsShortForm hash path bytes → IsShortForm hash other bytes → path ≡ other
  one_path path other bytes hs gs f g =
      let k : ℕ = others_count 256 0 (take 32 bytes) in
      let long : length (drop 32 bytes) ≡ 32 * k = omega (arith, form_len path bytes hs f, length-drop 32 bytes) in
      sym (path_of_form path bytes k hs f long) ∙ path_of_form other bytes k gs g long

  -- the bits of a path are one
  same_bit : (path : List (List ℕ)) (bytes other : List ℕ) → IsShortForm hash path bytes → IsShortForm hash path other → (h : ℕ) → h < 256 → is_right (take 32 bytes) h ≡ is_right (take 32 other) h
  same_bit path bytes other f g h below = elim (cases_Bool (is_right (take 32 bytes) h)) [
    | inl set ↦ set ∙ sym ((g.bits h below).1 ((f.bits h below).0 set))
    | inr unset ↦ elim (cases_Bool (is_right (take 32 other) h)) [
      | inl set ↦ let t : is_right (take 32 bytes) h ≡ true = (f.bits h below).1 ((g.bits h below).0 set) in cc
      | inr none ↦ unset ∙ sym none
    ]
  ]

  pub one_form_of : (path : List (List ℕ)) (bytes other : List ℕ) → ((i : ℕ) → get_or (take 32 bytes) i 0 < 256) → ((i : ℕ) → get_or (take 32 other) i 0 < 256) → IsShortForm hash path bytes → IsShortForm hash path other → bytes ≡ other
  one_form_of path bytes other hb ho f g =
      let bits : take 32 bytes ≡ take 32 other = one_key (take 32 bytes) (take 32 other) (omega (arith, length-take 32 bytes, f.whole)) (omega (arith, length-take 32 other, g.whole)) hb ho (ap reverse (same_sides 256 (take 32 bytes) (take 32 other) (same_bit path bytes other f g))) in
      let rest : drop 32 bytes ≡ drop 32 other = f.others ∙ ap (λ b. concat (others_of 0 b path)) bits ∙ sym g.others in
      sym (take-append-drop 32 bytes) ∙ ap (λ b. b ++ drop 32 bytes) bits ∙ ap (λ r. take 32 other ++ r) rest ∙ take-append-drop 32 other

  pub one_form : (path : List (List ℕ)) (bytes other : List ℕ) → ((i : ℕ) → get_or bytes i 0 < 256) → ((i : ℕ) → get_or other i 0 < 256) → IsShortForm hash path bytes → IsShortForm hash path other → bytes ≡ other
  one_form path bytes other hb ho f g = one_form_of path bytes other (byte_of_take bytes hb) (byte_of_take other ho) f g

  -- the parts of bytes that are a short form, and their path
  pub short_parts : (bytes : List ℕ) → IsShort hash bytes → AreParts hash (take 32 bytes) (others_in bytes)
  short_parts bytes short =
      let size = short.size in
      record {
        size = omega (arith, length-take 32 bytes);
        hashes = all_chunks (length (drop 32 bytes) / 32) (drop 32 bytes) (omega arith);
        canonical = short.canonical;
      }

  pub short_form : (bytes : List ℕ) → IsShort hash bytes → IsShortForm hash (path_of hash bytes) bytes
  short_form bytes short =
      let size = short.size in
      let long : length (drop 32 bytes) ≡ 32 * (length (drop 32 bytes) / 32) = omega (arith, length-drop 32 bytes) in
      accept bytes (take 32 bytes) (drop 32 bytes) (others_in bytes) (length (drop 32 bytes) / 32) refl refl (omega arith) long refl short.canonical

  pub form_short : ((m : List ℕ) → length (hash m) ≡ 32) → (bits : List ℕ) (os : List (List ℕ)) → AreParts hash bits os → IsShort hash (bits ++ concat os)
  form_short long bits os are =
      let front : take 32 (bits ++ concat os) ≡ bits = take_at bits (concat os) 32 are.size in
      let back : others_in (bits ++ concat os) ≡ os = others_in-form bits os are.size are.hashes in
      record {
        size = form_len (full_path hash bits os) (bits ++ concat os) (all_full long bits os are) (form bits os are);
        canonical = rw (front, back) are.canonical;
      }

  pub form_path : (bits : List ℕ) (os : List (List ℕ)) → AreParts hash bits os → path_of hash (bits ++ concat os) ≡ full_path hash bits os
  form_path bits os are =
      ap (λ b. full_path hash b (others_in (bits ++ concat os))) (take_at bits (concat os) 32 are.size)
      ∙ ap (full_path hash bits) (others_in-form bits os are.size are.hashes)

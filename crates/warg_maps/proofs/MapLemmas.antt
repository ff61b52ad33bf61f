-- From the parts of a map to the words of the clauses.
use Rattle.std.proofs.Common.{◌≡◌, ◌+◌, ◌-◌, ℕ, zero, suc, ◌<◌, ◌≤◌, Bool, true, false, List, [], ◌∷◌, ◌++◌, map, length, reverse, None, Some, position, get_or, refl}
use Rattle.std.specs.List.{IsDistinct, zip}
use Rattle.std.specs.Map.{keys_of, values_of, IsKeyTest}
use Rattle.std.specs.Cmp.{IsEquivalence}
use mathlib.Core.Path.{sym, ap, subst, ◌∙◌}
use native.Mathlib.Omega.{arith}
use native.Mathlib.Decide.{dec_lt}
use lib.ListN.{length-map, length-append, get_or-map}
use Rattle.std.proofs.lemmas.List.{get_or_default, get_or_append_left, get_or_push, reverse-append, length-reverse, map_push}
use Rattle.std_collections.specs.Layout.Columns.{entry_at}
use Rattle.std_collections.proofs.HashLookup.{IsAbsent, IsFirst-from_index, IsAbsent-from_indices, distinct_push, keys_push}
use Rattle.std_collections.proofs.Zip.{keys_of-zip, values_of-zip, zip-append, length-zip_even}
use Rattle.indexmap.proofs.MapLemmas.{index-first, index-absent, absent_from_lookup}
use Rattle.std.specs.declared.cmp.Ordering.{Ordering}
use Rattle.warg_maps.specs.declared.index.Index.{Index}
use Rattle.std.specs.Ordering.{is_eq}
use Rattle.std.specs.Map.{lookup}
use Rattle.warg_maps.specs.Buckets.{free}
use Rattle.warg_maps.specs.Index.{HasEntry, IsAt}
use Rattle.warg_maps.specs.NameMap.{room_of, IsWhole}

-- where the keys and the values of a map are es side by side
module _ {K X : Type 0} (ks : List K) (vs : List X) (es : List (K × X)) (even : length vs ≡ length ks) (sides : zip ks vs ≡ es) where
  pub keys-seen : ks ≡ keys_of es
  keys-seen = sym (keys_of-zip ks vs even) ∙ ap keys_of sides

  pub values-seen : vs ≡ values_of es
  values-seen = sym (values_of-zip ks vs even) ∙ ap values_of sides

  pub length-seen : length ks ≡ length es
  length-seen = sym (length-zip_even ks vs even) ∙ ap length sides

module _ {K X : Type 0} (t : K → Bool) (es : List (K × X)) where
  -- a key at a place that passes is the one that a look-up finds
  pub position-at : {eq : K → K → Bool} → IsEquivalence eq → IsKeyTest eq t → IsDistinct eq (keys_of es) → (i : ℕ) → IsAt t (keys_of es) i → position t (keys_of es) ≡ Some i
  position-at {eq} laws key distinct i at =
      let within : i < length es = omega (arith, at.within, length-map es (λ e. e.0)) in
      let d = (entry_at es i within).0 in
      index-first t es i (IsFirst-from_index eq laws t key es i d distinct within (at.passes d))

  missed : ((i : ℕ) → IsAt t (keys_of es) i → ⊥) → (i : ℕ) (d : K) → i < length es → (b : Bool) → ((x : K) → get_or (keys_of es) i x ≡ get_or (keys_of es) i d) → t (get_or (keys_of es) i d) ≡ b → b ≡ false
  missed none i d p false same e = refl
  missed none i d p true same e = absurd (none i (record { within = omega (arith, p, length-map es (λ e. e.0)); passes = λ x. ap t (same x) ∙ e }))

  -- where no place has a key that passes, a look-up finds none
  pub position-none : ((i : ℕ) → IsAt t (keys_of es) i → ⊥) → position t (keys_of es) ≡ None
  position-none none =
      index-absent t es (IsAbsent-from_indices t es (λ i d p. missed none i d p (t (get_or (keys_of es) i d)) (λ x. get_or_default (keys_of es) i x d (omega (arith, p, length-map es (λ e. e.0)))) refl))

module _ {K : Type 0} (eq : K → K → Bool) (cmp : K → K → Ordering) (hash far : K → ℕ) where
  pub hash-counted : {index : Index K} {hs : List ℕ} {ks : List K} → IsWhole eq cmp hash far index hs ks → length hs ≡ length ks
  hash-counted {index} {hs} {ks} w = ap length w.hashed ∙ length-map ks hash

  pub whole-empty : (index : Index K) (hs : List ℕ) (ks : List K) → ks ≡ [] → hs ≡ [] → IsWhole eq cmp hash far index hs ks
  unfolding IsDistinct
  whole-empty index hs ks none bare =
      let n : length ks ≡ 0 = ap length none in
      record {
        distinct = subst (IsDistinct eq) (sym none) tt;
        hashed = bare ∙ ap (map hash) (sym none);
        placed = λ i d p. absurd (omega (arith, n, p));
        small = omega (arith, n);
      }

  -- what stays, stays whole
  pub whole-as : (old new : Index K) (hs hs' : List ℕ) (ks ks' : List K) → ((h f : ℕ) (k : K) (i : ℕ) → HasEntry cmp old h f k i → HasEntry cmp new h f k i)
      → hs' ≡ hs → ks' ≡ ks → IsWhole eq cmp hash far old hs ks → IsWhole eq cmp hash far new hs' ks'
  whole-as old new hs hs' ks ks' kept same_hashes same w =
      rw (same_hashes, same) (record {
        distinct = w.distinct;
        hashed = w.hashed;
        placed = λ i d p. kept _ _ _ i (w.placed i d p);
        small = w.small;
      })

  -- an index that was filled by the keys and their hashes
  pub whole-filled : (index : Index K) (hs : List ℕ) (ks : List K) (hs' : List ℕ) (ks' : List K) → ks' ≡ ks → hs' ≡ hs → IsDistinct eq ks → hs ≡ map hash ks
      → ((i : ℕ) (d : K) → i < length ks' → HasEntry cmp index (get_or hs' i 0) (far (get_or ks' i d)) (get_or ks' i d) i)
      → length ks ≤ free → IsWhole eq cmp hash far index hs ks
  whole-filled index hs ks hs' ks' same_keys same_hashes distinct hashed placed small =
      let long = ap length same_keys in
      let counted : length hs ≡ length ks = ap length hashed ∙ length-map ks hash in
      record {
        distinct = distinct;
        hashed = hashed;
        placed = λ i d p.
            let k = get_or ks i d in
            let seen : HasEntry cmp index (get_or hs i 0) (far k) k i = subst (λ l. HasEntry cmp index (get_or l i 0) (far k) k i) same_hashes
            (subst (λ l. HasEntry cmp index (get_or hs' i 0) (far (get_or l i d)) (get_or l i d) i) same_keys (placed i d (omega (arith, p, long)))) in
            let read : get_or hs i 0 ≡ hash k = get_or_default hs i 0 (hash d) (omega (arith, p, counted)) ∙ ap (λ l. get_or l i (hash d)) hashed ∙ get_or-map hash ks i d in
            subst (λ n. HasEntry cmp index n (far k) k i) read seen;
        small = small;
      }

-- an index that keeps the places of other keys, and has one for a new key
pub record Adds {K : Type 0} (cmp : K → K → Ordering) (old new : Index K) (h f : ℕ) (key : K) (place : ℕ) : Type 0 where
  pub added : HasEntry cmp new h f key place
  pub kept : (h f : ℕ) (k : K) (i : ℕ) → is_eq (cmp key k) ≡ false → HasEntry cmp old h f k i → HasEntry cmp new h f k i

-- a key that a look-up misses is at no place
missing-at : {K X : Type 0} (t : K → Bool) (es : List (K × X)) → IsAbsent t es → (i : ℕ) (d : K) → i < length es → t (get_or (keys_of es) i d) ≡ false
missing-at t [] a i d p = absurd (omega (arith, p))
missing-at t (e ∷ es) a zero d p = a.0
missing-at t (e ∷ es) a (suc i) d p = missing-at t es a.1 i d (omega (arith, p))

module _ {K X : Type 0} {eq : K → K → Bool} (laws : IsEquivalence eq) {cmp : K → K → Ordering} (agrees : (x y : K) → eq x y ≡ is_eq (cmp x y)) (hash far : K → ℕ) where
  -- a new key goes last, with its hash and its place; es are the entries before
  pub whole-push : (old new : Index K) (hs : List ℕ) (ks : List K) (es : List (K × X)) (k : K) (v : X) (h : ℕ) → ks ≡ keys_of es → length ks ≡ length es → lookup (eq k) es ≡ None
      → IsWhole eq cmp hash far old hs ks → h ≡ hash k → Adds cmp old new h (far k) k (length ks) → length ks < free →
      IsWhole eq cmp hash far new (hs ++ h ∷ []) (ks ++ k ∷ [])
  whole-push old new hs ks es k v h seen even lacks w is adds small =
      let longer : length (ks ++ k ∷ []) ≡ length ks + 1 = length-append ks (k ∷ []) in
      let absent = absent_from_lookup (eq k) es lacks in
      record {
        distinct = subst (IsDistinct eq) (keys_push es (k, v) ∙ ap (λ l. l ++ k ∷ []) (sym seen)) (distinct_push eq laws es (k, v) (subst (IsDistinct eq) seen w.distinct) absent);
        hashed = (λ j. w.hashed j ++ is j ∷ []) ∙ sym (map_push hash ks k);
        placed = λ i d p.
            elim (dec_lt i (length ks)) [
              | yes before ↦
                  let there = get_or ks i d in
                  let same : get_or (ks ++ k ∷ []) i d ≡ there = get_or_append_left ks (k ∷ []) d i before in
                  let apart : is_eq (cmp k there) ≡ false = sym (agrees k there) ∙ ap (λ l. eq k (get_or l i d)) seen ∙ missing-at (eq k) es absent i d (omega (arith, before, even)) in
                  subst (λ x. HasEntry cmp new (hash x) (far x) x i) (sym same) (adds.kept (hash there) (far there) there i apart (w.placed i d before))
              | no after ↦
                  let last : length ks ≡ i = omega (arith, after, p, longer) in
                  let same : get_or (ks ++ k ∷ []) i d ≡ k = get_or_push ks k d i last in
                  let added = subst (λ n. HasEntry cmp new n (far k) k (length ks)) is adds.added in
                  subst (λ x. HasEntry cmp new (hash x) (far x) x i) (sym same) (subst (λ n. HasEntry cmp new (hash k) (far k) k n) last added)
            ];
        small = omega (arith, small, longer);
      }

-- where there is room for one more entry, each part has it
pub record HasRoom (keys values hashes n : ℕ) : Type 0 where
  pub in_keys : n < keys
  pub in_values : n < values
  pub in_hashes : n < hashes
  pub is_small : n < free

pub has-room : (keys values hashes n : ℕ) → 0 < room_of keys values hashes - n → HasRoom keys values hashes n
unfolding room_of
has-room keys values hashes n some =
    record { in_keys = omega (arith, some); in_values = omega (arith, some); in_hashes = omega (arith, some); is_small = omega (arith, some) }

pub room-small : (keys values hashes : ℕ) → room_of keys values hashes ≤ free
unfolding room_of
room-small keys values hashes = omega arith

-- more capacity is more room
pub room-grows : (a b c a' b' c' n : ℕ) → a ≤ a' → b ≤ b' → c ≤ c' → room_of a b c - n ≤ room_of a' b' c' - n
unfolding room_of
room-grows a b c a' b' c' n p q r = omega (arith, p, q, r)

pub room-enough : (a b c n k : ℕ) → n + k ≤ a → n + k ≤ b → n + k ≤ c → n + k ≤ free → k ≤ room_of a b c - n
unfolding room_of
room-enough a b c n k p q r s = omega (arith, p, q, r, s)

-- what is left, if all fit, once the entries are gone
pub room-keeps : (a b c n : ℕ) → n ≤ a → n ≤ b → n ≤ c → n ≤ free → n + (room_of a b c - n) ≤ room_of a b c
unfolding room_of
room-keeps a b c n p q r s = omega (arith, p, q, r, s)

-- the sides of a reversed list are the reversed sides
pub sides-reversed : {K X : Type 0} (ks : List K) (vs : List X) → length vs ≡ length ks → zip (reverse ks) (reverse vs) ≡ reverse (zip ks vs)
sides-reversed [] [] even = refl
sides-reversed [] (v ∷ vs) even = absurd (omega (arith, even))
sides-reversed (k ∷ ks) [] even = absurd (omega (arith, even))
sides-reversed (k ∷ ks) (v ∷ vs) even =
    let shorter : length vs ≡ length ks = omega (arith, even) in
    (λ j. zip (reverse-append (k ∷ []) ks j) (reverse-append (v ∷ []) vs j))
    ∙ zip-append (reverse ks) (reverse vs) (k ∷ []) (v ∷ []) (length-reverse vs ∙ shorter ∙ sym (length-reverse ks))
    ∙ ap (λ l. l ++ (k, v) ∷ []) (sides-reversed ks vs shorter)
    ∙ sym (reverse-append ((k, v) ∷ []) (zip ks vs))

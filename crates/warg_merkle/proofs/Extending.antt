-- A tree's own extension paths lead to both roots, and another path does only where what is hashed collides.
use Rattle.std.proofs.Common.{◌≡◌, ◌⊎◌, ℕ, zero, suc, ◌+◌, ◌-◌, ◌*◌, ◌^◌, ◌<◌, ◌≤◌, ltb, Bool, true, false, ◌==◌, if◌then◌else◌, List, [], ◌∷◌, ◌++◌, length, take, drop, Option, Some, inl, inr, refl, sym, ◌∙◌, ap, arith}
use Rattle.std.specs.List.{All}
use Rattle.std.proofs.Math.Nat.{pow-succ', eq-or-lt_of_le}
use Rattle.std.proofs.lemmas.Bool.{cases_lt}
use Rattle.std.proofs.lemmas.Nat.{pow_pos}
use Rattle.std.proofs.lemmas.Bool.Decides.{nat_tests}
use Rattle.std.proofs.lemmas.List.{length-take-le, length-drop, take-take, drop-take, take_all}
use Rattle.warg_merkle.specs.Trees.{Side, Left, Right, node_input, left_size, tree_hash, climb, HaveCollision}
use Rattle.warg_merkle.specs.Extensions.{start_index, sides_from_start, extension_sides, climb_both, climb_from, climb_inputs_from, with_start, Extends, extension_within, extension}
use Rattle.warg_merkle.proofs.Sizes.{left_part, left_pos, power_order, one_left}
use Rattle.warg_merkle.proofs.Paths.{root_node}
use Rattle.warg_merkle.proofs.JoinLevels.{start_at_top, start_in_left, start_in_right}
use Rattle.warg_merkle.proofs.Climbs.{one_way, all_rest}
use Rattle.warg_merkle.proofs.Sound.{all_push, root_long}

pub same_pair : (a b x y : List ℕ) → Path (Option (List ℕ × List ℕ)) (Some (a, b)) (Some (x, y)) → (a ≡ x) × (b ≡ y)
same_pair a b x y e =
    let pairs : Path (List ℕ × List ℕ) (a, b) (x, y) = cc in
    (ap (λ (p : List ℕ × List ℕ). p.0) pairs, ap (λ (p : List ℕ × List ℕ). p.1) pairs)

module _ (hash : List ℕ → List ℕ) where
  -- the new root of a way up to both
  pub new_root : (ss : List Side) (ps : List (List ℕ)) (a b x y : List ℕ) → climb_both hash ss ps a b ≡ Some (x, y) → climb hash ss ps b ≡ Some y
  unfolding climb_both climb
  new_root [] [] a b x y e = ap (λ r. Some r) (same_pair a b x y e).1
  new_root [] (p ∷ ps) a b x y e = cc
  new_root (s ∷ ss) [] a b x y e = cc
  new_root (Left ∷ ss) (p ∷ ps) a b x y e = new_root ss ps a (hash (node_input b p)) x y e
  new_root (Right ∷ ss) (p ∷ ps) a b x y e = new_root ss ps (hash (node_input p a)) (hash (node_input p b)) x y e

  both_left : (ss : List Side) (ps : List (List ℕ)) (p a b x y : List ℕ) → climb_both hash ss ps a b ≡ Some (x, y) → climb_both hash (ss ++ Left ∷ []) (ps ++ p ∷ []) a b ≡ Some (x, hash (node_input y p))
  unfolding climb_both
  both_left [] [] p a b x y e = let same = same_pair a b x y e in ap (λ r. Some (r, hash (node_input b p))) same.0 ∙ ap (λ r. Some (x, hash (node_input r p))) same.1
  both_left [] (q ∷ ps) p a b x y e = cc
  both_left (s ∷ ss) [] p a b x y e = cc
  both_left (Left ∷ ss) (q ∷ ps) p a b x y e = both_left ss ps p a (hash (node_input b q)) x y e
  both_left (Right ∷ ss) (q ∷ ps) p a b x y e = both_left ss ps p (hash (node_input q a)) (hash (node_input q b)) x y e

  both_right : (ss : List Side) (ps : List (List ℕ)) (p a b x y : List ℕ) → climb_both hash ss ps a b ≡ Some (x, y) → climb_both hash (ss ++ Right ∷ []) (ps ++ p ∷ []) a b ≡ Some (hash (node_input p x), hash (node_input p y))
  unfolding climb_both
  both_right [] [] p a b x y e = let same = same_pair a b x y e in ap (λ r. Some (hash (node_input p r), hash (node_input p b))) same.0 ∙ ap (λ r. Some (hash (node_input p x), hash (node_input p r))) same.1
  both_right [] (q ∷ ps) p a b x y e = cc
  both_right (s ∷ ss) [] p a b x y e = cc
  both_right (Left ∷ ss) (q ∷ ps) p a b x y e = both_right ss ps p a (hash (node_input b q)) x y e
  both_right (Right ∷ ss) (q ∷ ps) p a b x y e = both_right ss ps p (hash (node_input q a)) (hash (node_input q b)) x y e

  from_left : (ss : List Side) (ps : List (List ℕ)) (p x y : List ℕ) → climb_from hash ss ps ≡ Some (x, y) → climb_from hash (ss ++ Left ∷ []) (ps ++ p ∷ []) ≡ Some (x, hash (node_input y p))
  from_left ss [] p x y e = cc
  from_left ss (start ∷ ps) p x y e = both_left ss ps p start start x y e

  from_right : (ss : List Side) (ps : List (List ℕ)) (p x y : List ℕ) → climb_from hash ss ps ≡ Some (x, y) → climb_from hash (ss ++ Right ∷ []) (ps ++ p ∷ []) ≡ Some (hash (node_input p x), hash (node_input p y))
  from_right ss [] p x y e = cc
  from_right ss (start ∷ ps) p x y e = both_right ss ps p start start x y e

  -- the path at a tree that is whole, and at one that has the first leaves in its left part, or ends in its right part
  pub path_whole : (f m : ℕ) (ds : List (List ℕ)) → length ds ≤ m → extension_within hash (suc f) m ds ≡ tree_hash hash ds ∷ []
  unfolding extension_within
  path_whole f m ds most = let a : ltb m (length ds) ≡ false = grind (arith, nat_tests) in rw a refl

  pub path_left : (f m : ℕ) (ds : List (List ℕ)) → m < length ds → m ≤ left_size (length ds) → extension_within hash (suc f) m ds ≡ extension_within hash f m (take (left_size (length ds)) ds) ++ tree_hash hash (drop (left_size (length ds)) ds) ∷ []
  unfolding extension_within
  path_left f m ds less low = let a : ltb m (length ds) ≡ true = grind (arith, nat_tests) in let b : ltb (left_size (length ds)) m ≡ false = grind (arith, nat_tests) in rw (a, b) refl

  pub path_right : (f m : ℕ) (ds : List (List ℕ)) → m < length ds → left_size (length ds) < m → extension_within hash (suc f) m ds ≡ extension_within hash f (m - left_size (length ds)) (drop (left_size (length ds)) ds) ++ tree_hash hash (take (left_size (length ds)) ds) ∷ []
  unfolding extension_within
  path_right f m ds less high = let a : ltb m (length ds) ≡ true = grind (arith, nat_tests) in let b : ltb (left_size (length ds)) m ≡ true = grind (arith, nat_tests) in rw (a, b) refl

  -- the root of the first leaves, where they end in the right part
  root_of_first : (m k j : ℕ) (ds : List (List ℕ)) → k ≡ 2 ^ j → k < m → m ≤ 2 * k → m ≤ length ds → tree_hash hash (take m ds) ≡ hash (node_input (tree_hash hash (take k ds)) (tree_hash hash (take (m - k) (drop k ds))))
  root_of_first m k j ds is below largest most =
      let lt : length (take m ds) ≡ m = length-take-le m ds most in
      let pos = pow_pos j in
      let k_is : left_size (length (take m ds)) ≡ k = ap left_size lt ∙ sym (one_left m k j is below largest (omega arith)) in
      let front : take k (take m ds) ≡ take k ds = take-take k m ds (omega arith) in
      let sum : m ≡ k + (m - k) = omega arith in
      let back : drop k (take m ds) ≡ take (m - k) (drop k ds) = ap (λ n. drop k (take n ds)) sum ∙ drop-take k (m - k) ds in
      root_node hash (take m ds) (omega arith) ∙ ap (λ n. hash (node_input (tree_hash hash (take n (take m ds))) (tree_hash hash (drop n (take m ds))))) k_is ∙ ap (λ xs. hash (node_input (tree_hash hash xs) (tree_hash hash (drop k (take m ds))))) front ∙ ap (λ xs. hash (node_input (tree_hash hash (take k ds)) (tree_hash hash xs))) back

  abbrev Reaches : ℕ → ℕ → ℕ → List (List ℕ) → Type 0
  Reaches f g m ds = climb_from hash (sides_from_start g (m - 1) (length ds - 1)) (extension_within hash f m ds) ≡ Some (tree_hash hash (take m ds), tree_hash hash ds)

  -- there are more leaves, or they are a power of two
  abbrev IsOpen : ℕ → List (List ℕ) → Type 0
  IsOpen m ds = (m < length ds) ⊎ ((m ≡ length ds) × ((j : ℕ) × (length ds ≡ 2 ^ j)))

  by_left : (f g m : ℕ) (ds : List (List ℕ)) → 0 < m → m < length ds → m ≤ left_size (length ds) → length ds ≤ suc f → length ds ≤ 2 ^ g → (IsOpen m (take (left_size (length ds)) ds) → length (take (left_size (length ds)) ds) ≤ f → length (take (left_size (length ds)) ds) ≤ 2 ^ g → Reaches f g m (take (left_size (length ds)) ds)) → Reaches (suc f) g m ds
  by_left f g m ds some less low hf hg before =
      let more : 1 < length ds = omega arith in
      let k : ℕ = left_size (length ds) in
      let part = left_part (length ds) more in
      let j : ℕ = part.power in
      let is = part.is_power in
      let below = part.below in
      let largest = part.largest in
      let twice = pow-succ' 2 j in
      let deep : j < g = power_order j g (omega arith) in
      let lt : length (take k ds) ≡ k = length-take-le k ds (omega arith) in
      let still : IsOpen m (take k ds) = elim (eq-or-lt_of_le low) [ inl same ↦ inr (same ∙ sym lt, (j, lt ∙ is)) | inr fewer ↦ inl (omega arith) ] in
      let here : Reaches f g m (take k ds) = before still (omega arith) (omega arith) in
      let way : sides_from_start g (m - 1) (length ds - 1) ≡ sides_from_start g (m - 1) (length (take k ds) - 1) ++ Left ∷ [] = start_in_left g j (m - 1) (length ds - 1) deep (omega arith) (omega arith) (omega arith) ∙ ap (λ n. sides_from_start g (m - 1) (n - 1) ++ Left ∷ []) (sym is ∙ sym lt) in
      let first : take m (take k ds) ≡ take m ds = take-take m k ds low in
      ap (λ ss. climb_from hash ss (extension_within hash (suc f) m ds)) way
      ∙ ap (λ ps. climb_from hash (sides_from_start g (m - 1) (length (take k ds) - 1) ++ Left ∷ []) ps) (path_left f m ds less low)
      ∙ from_left (sides_from_start g (m - 1) (length (take k ds) - 1)) (extension_within hash f m (take k ds)) (tree_hash hash (drop k ds)) (tree_hash hash (take m (take k ds))) (tree_hash hash (take k ds)) here
      ∙ ap (λ xs. Some (tree_hash hash xs, hash (node_input (tree_hash hash (take k ds)) (tree_hash hash (drop k ds))))) first
      ∙ ap (λ r. Some (tree_hash hash (take m ds), r)) (sym (root_node hash ds more))

  by_right : (f g m : ℕ) (ds : List (List ℕ)) → m < length ds → left_size (length ds) < m → length ds ≤ suc f → length ds ≤ 2 ^ g → (0 < m - left_size (length ds) → IsOpen (m - left_size (length ds)) (drop (left_size (length ds)) ds) → length (drop (left_size (length ds)) ds) ≤ f → length (drop (left_size (length ds)) ds) ≤ 2 ^ g → Reaches f g (m - left_size (length ds)) (drop (left_size (length ds)) ds)) → Reaches (suc f) g m ds
  by_right f g m ds less high hf hg before =
      let more : 1 < length ds = omega arith in
      let k : ℕ = left_size (length ds) in
      let part = left_part (length ds) more in
      let j : ℕ = part.power in
      let is = part.is_power in
      let below = part.below in
      let largest = part.largest in
      let twice = pow-succ' 2 j in
      let pos = left_pos (length ds) more in
      let deep : j < g = power_order j g (omega arith) in
      let ld : length (drop k ds) ≡ length ds - k = length-drop k ds in
      let here : Reaches f g (m - k) (drop k ds) = before (omega arith) (inl (omega arith)) (omega arith) (omega arith) in
      let way : sides_from_start g (m - 1) (length ds - 1) ≡ sides_from_start g (m - k - 1) (length (drop k ds) - 1) ++ Right ∷ [] = start_in_right g j (m - 1) (length ds - 1) (m - k - 1) (length (drop k ds) - 1) deep (omega arith) (omega arith) (omega arith) (omega arith) in
      ap (λ ss. climb_from hash ss (extension_within hash (suc f) m ds)) way
      ∙ ap (λ ps. climb_from hash (sides_from_start g (m - k - 1) (length (drop k ds) - 1) ++ Right ∷ []) ps) (path_right f m ds less high)
      ∙ from_right (sides_from_start g (m - k - 1) (length (drop k ds) - 1)) (extension_within hash f (m - k) (drop k ds)) (tree_hash hash (take k ds)) (tree_hash hash (take (m - k) (drop k ds))) (tree_hash hash (drop k ds)) here
      ∙ ap (λ r. Some (r, hash (node_input (tree_hash hash (take k ds)) (tree_hash hash (drop k ds))))) (sym (root_of_first m k j ds is high (omega arith) (omega arith)))
      ∙ ap (λ r. Some (tree_hash hash (take m ds), r)) (sym (root_node hash ds more))

  alone : (h : List ℕ) → climb_from hash [] (h ∷ []) ≡ Some (h, h)
  unfolding climb_both
  alone h = refl

  at_whole : (f g m j : ℕ) (ds : List (List ℕ)) → m ≡ length ds → length ds ≡ 2 ^ j → Reaches (suc f) g m ds
  at_whole f g m j ds same is =
      ap (λ ss. climb_from hash ss (extension_within hash (suc f) m ds)) (start_at_top g j (m - 1) (length ds - 1) (omega arith) (omega arith))
      ∙ ap (λ ps. climb_from hash [] ps) (path_whole f m ds (omega arith))
      ∙ alone (tree_hash hash ds)
      ∙ ap (λ xs. Some (tree_hash hash xs, tree_hash hash ds)) (sym (take_all m ds (omega arith)))

  -- a tree's own path leads to both roots
  pub reaches_both : (f g m : ℕ) (ds : List (List ℕ)) → 0 < m → IsOpen m ds → length ds ≤ f → length ds ≤ 2 ^ g → Reaches f g m ds
  reaches_both zero g m ds some (inl less) hf hg = absurd (omega arith)
  reaches_both zero g m ds some (inr (same, power)) hf hg = absurd (omega arith)
  reaches_both (suc f) g m ds some (inr (same, (j, is))) hf hg = at_whole f g m j ds same is
  reaches_both (suc f) g m ds some (inl less) hf hg = elim (cases_lt (left_size (length ds)) m) [
    | inl high ↦ by_right f g m ds less high hf hg (reaches_both f g (m - left_size (length ds)) (drop (left_size (length ds)) ds))
    | inr low ↦ by_left f g m ds some less low hf hg (reaches_both f g m (take (left_size (length ds)) ds) some)
  ]

by_test : (b : Bool) (old : List ℕ) (path : List (List ℕ)) → length old ≡ 32 → All (λ p. length p ≡ 32) path → All (λ p. length p ≡ 32) (if b then old ∷ path else path)
by_test true old path h hs zero d below = h
by_test true old path h hs (suc k) d below = hs k d (omega arith)
by_test false old path h hs k d below = hs k d below

module _ (hash : List ℕ → List ℕ) (long : (m : List ℕ) → length (hash m) ≡ 32) where
  path_long : (f m : ℕ) (ds : List (List ℕ)) → All (λ p. length p ≡ 32) (extension_within hash f m ds)
  unfolding extension_within
  path_long zero m ds = λ k d below. absurd (omega arith)
  path_long (suc f) m ds = elim (cases_lt m (length ds)) [
    | inr most ↦ let a : ltb m (length ds) ≡ false = grind (arith, nat_tests) in rw a (all_push [] (tree_hash hash ds) (λ k d below. absurd (omega arith)) (root_long hash long ds))
    | inl less ↦ let a : ltb m (length ds) ≡ true = grind (arith, nat_tests) in elim (cases_lt (left_size (length ds)) m) [
      | inl high ↦ let b : ltb (left_size (length ds)) m ≡ true = grind (arith, nat_tests) in rw (a, b) (all_push _ _ (path_long f (m - left_size (length ds)) (drop (left_size (length ds)) ds)) (root_long hash long (take (left_size (length ds)) ds)))
      | inr low ↦ let b : ltb (left_size (length ds)) m ≡ false = grind (arith, nat_tests) in rw (a, b) (all_push _ _ (path_long f m (take (left_size (length ds)) ds)) (root_long hash long (drop (left_size (length ds)) ds)))
    ]
  ]

  -- two ways up to one new root
  one_extension : (ss : List Side) (ps qs : List (List ℕ)) (x y z : List ℕ) → All (λ p. length p ≡ 32) ps → All (λ p. length p ≡ 32) qs → climb_from hash ss ps ≡ Some (x, z) → climb_from hash ss qs ≡ Some (y, z) → ((x ≡ y) × (ps ≡ qs)) ⊎ HaveCollision hash (climb_inputs_from hash ss ps) (climb_inputs_from hash ss qs)
  one_extension ss [] qs x y z hp hq ep eq = cc
  one_extension ss (p ∷ ps) [] x y z hp hq ep eq = cc
  one_extension ss (p ∷ ps) (q ∷ qs) x y z hp hq ep eq =
      elim (one_way hash long ss ps qs p q z (all_rest p ps hp) (all_rest q qs hq) (hp 0 p (omega arith)) (hq 0 q (omega arith)) (new_root hash ss ps p p x z ep) (new_root hash ss qs q q y z eq)) [
        | inr found ↦ inr found
        | inl (same, rest) ↦
            let paths : p ∷ ps ≡ q ∷ qs = cc in
            let ends : Path (Option (List ℕ × List ℕ)) (Some (x, z)) (Some (y, z)) = sym ep ∙ ap (λ rs. climb_from hash ss rs) paths ∙ eq in
            inl ((same_pair x z y z ends).0, paths)
      ]

  -- the old root is that of the first leaves and the path the tree's own, or what was hashed collides
  pub own_extension_or_collision : (first size : ℕ) (path : List (List ℕ)) (old new : List ℕ) → All (λ p. length p ≡ 32) (with_start hash first old path) → size ≤ 2 ^ 64 → Extends hash first size path old new → (ds : List (List ℕ)) → length ds ≡ size → tree_hash hash ds ≡ new → ((tree_hash hash (take first ds) ≡ old) × (extension hash first ds ≡ with_start hash first old path)) ⊎ HaveCollision hash (climb_inputs_from hash (extension_sides first (length ds)) (extension hash first ds)) (climb_inputs_from hash (extension_sides first (length ds)) (with_start hash first old path))
  unfolding extension
  own_extension_or_collision first size path old new hp most extends ds same of_new =
      let some = extends.some in
      let more : first < length ds = let less = extends.more in omega arith in
      let own = reaches_both hash (length ds) 64 first ds some (inl more) (omega arith) (omega arith) in
      let given : climb_from hash (extension_sides first (length ds)) (with_start hash first old path) ≡ Some (old, tree_hash hash ds) = ap (λ n. climb_from hash (extension_sides first n) (with_start hash first old path)) same ∙ extends.reaches ∙ ap (λ r. Some (old, r)) (sym of_new) in
      one_extension (extension_sides first (length ds)) (extension_within hash (length ds) first ds) (with_start hash first old path) (tree_hash hash (take first ds)) old (tree_hash hash ds) (path_long (length ds) first ds) hp own given

-- a path with the old root before it
pub with_start_long : (hash : List ℕ → List ℕ) (first : ℕ) (old : List ℕ) (path : List (List ℕ)) → length old ≡ 32 → All (λ p. length p ≡ 32) path → All (λ p. length p ≡ 32) (with_start hash first old path)
with_start_long hash first old path h hs = by_test (start_index 64 (first - 1) == 0) old path h hs

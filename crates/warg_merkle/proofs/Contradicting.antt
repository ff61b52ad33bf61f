-- Two proofs that are accepted under one root say one thing, or what is hashed for them collides.
use Rattle.std.proofs.Common.{◌≡◌, ◌⊎◌, ℕ, zero, suc, ◌^◌, ◌<◌, ◌≤◌, List, [], ◌∷◌, length, get_or, Some, inl, inr, refl, sym, ◌∙◌, ap, subst, arith}
use Rattle.std.specs.List.{All}
use Rattle.std.proofs.lemmas.Bool.{cases_lt}
use Rattle.std.proofs.lemmas.List.{ext_get_or}
use Rattle.warg_merkle.specs.Trees.{Side, sides, tree_hash, inclusion_path, path_inputs, Includes, HaveCollision}
use Rattle.warg_merkle.specs.Extensions.{climb_both, climb_from, climb_inputs_from, extension_sides, with_start, IsConsistent}
use Rattle.warg_merkle.proofs.Climbs.{all_rest, one_way, one_leaf}
use Rattle.warg_merkle.proofs.Extending.{same_pair, new_root, with_start_long}
use Rattle.warg_merkle.proofs.Sound.{own_verifies, own_or_collision, path_long}

-- each place has the one, or some place has the other
all_or_one : (n : ℕ) (P Q : ℕ → Type 0) → ((i : ℕ) → i < n → P i ⊎ Q i) → ((i : ℕ) → i < n → P i) ⊎ ((i : ℕ) × Q i)
all_or_one zero P Q each = inl (λ i below. absurd (omega arith))
all_or_one (suc n) P Q each = elim (all_or_one n P Q (λ i below. each i (omega arith))) [
  | inr found ↦ inr found
  | inl all ↦ elim (each n (omega arith)) [
    | inr here ↦ inr (n, here)
    | inl last ↦ inl (λ i below. elim (cases_lt i n) [
      | inl less ↦ all i less
      | inr most ↦ let is : n ≡ i = omega arith in subst P is last
    ])
  ]
]

module _ (hash : List ℕ → List ℕ) (long : (m : List ℕ) → length (hash m) ≡ 32) where
  pub one_place : (leaf other : List ℕ) (index size : ℕ) (path other_path : List (List ℕ)) (root : List ℕ) → All (λ p. length p ≡ 32) path → All (λ p. length p ≡ 32) other_path → Includes hash leaf index size path root → Includes hash other index size other_path root → ((leaf ≡ other) × (path ≡ other_path)) ⊎ HaveCollision hash (path_inputs hash leaf index size path) (path_inputs hash other index size other_path)
  one_place leaf other index size path other_path root hp hq a b = one_leaf hash long (sides index size) path other_path leaf other root hp hq a.reaches b.reaches

  -- two ways up from a whole subtree to one root
  one_start : (ss : List Side) (xs ys : List (List ℕ)) (o p r : List ℕ) → All (λ p. length p ≡ 32) xs → All (λ p. length p ≡ 32) ys → climb_from hash ss xs ≡ Some (o, r) → climb_from hash ss ys ≡ Some (p, r) → (o ≡ p) ⊎ HaveCollision hash (climb_inputs_from hash ss xs) (climb_inputs_from hash ss ys)
  one_start ss [] ys o p r hx hy ex ey = cc
  one_start ss (x ∷ xs) [] o p r hx hy ex ey = cc
  one_start ss (x ∷ xs) (y ∷ ys) o p r hx hy ex ey =
      elim (one_way hash long ss xs ys x y r (all_rest x xs hx) (all_rest y ys hy) (hx 0 x (omega arith)) (hy 0 y (omega arith)) (new_root hash ss xs x x o r ex) (new_root hash ss ys y y p r ey)) [
        | inr found ↦ inr found
        | inl (same, rest) ↦ inl (same_pair o r p r (sym ex ∙ ap (λ z. climb_both hash ss xs z z) same ∙ ap (λ zs. climb_both hash ss zs y y) rest ∙ ey)).0
      ]

  pub one_beginning : (first size : ℕ) (path other_path : List (List ℕ)) (old other root : List ℕ) → length old ≡ 32 → length other ≡ 32 → All (λ p. length p ≡ 32) path → All (λ p. length p ≡ 32) other_path → IsConsistent hash first size path old root → IsConsistent hash first size other_path other root → (old ≡ other) ⊎ HaveCollision hash (climb_inputs_from hash (extension_sides first size) (with_start hash first old path)) (climb_inputs_from hash (extension_sides first size) (with_start hash first other other_path))
  one_beginning first size path other_path old other root lo lp hp hq (inl a) (inl b) = inl (a.root ∙ sym b.root)
  one_beginning first size path other_path old other root lo lp hp hq (inl a) (inr (inl b)) = let none = a.none in let some = b.some in absurd (omega arith)
  one_beginning first size path other_path old other root lo lp hp hq (inl a) (inr (inr b)) = let none = a.none in let some = b.some in absurd (omega arith)
  one_beginning first size path other_path old other root lo lp hp hq (inr (inl a)) (inl b) = let none = b.none in let some = a.some in absurd (omega arith)
  one_beginning first size path other_path old other root lo lp hp hq (inr (inl a)) (inr (inl b)) = inl (a.same ∙ sym b.same)
  one_beginning first size path other_path old other root lo lp hp hq (inr (inl a)) (inr (inr b)) = let all = a.all in let more = b.more in absurd (omega arith)
  one_beginning first size path other_path old other root lo lp hp hq (inr (inr a)) (inl b) = let none = b.none in let some = a.some in absurd (omega arith)
  one_beginning first size path other_path old other root lo lp hp hq (inr (inr a)) (inr (inl b)) = let all = b.all in let more = a.more in absurd (omega arith)
  one_beginning first size path other_path old other root lo lp hp hq (inr (inr a)) (inr (inr b)) = one_start (extension_sides first size) (with_start hash first old path) (with_start hash first other other_path) old other root (with_start_long hash first old path lo hp) (with_start_long hash first other other_path lp hq) a.reaches b.reaches

  pub own_leaf : (ds : List (List ℕ)) (i : ℕ) → i < length ds → length ds ≤ 2 ^ 64 → Includes hash (get_or ds i []) i (length ds) (inclusion_path hash i ds) (tree_hash hash ds)
  own_leaf ds i inside few = own_verifies hash i ds (inclusion_path hash i ds) inside few refl

  abbrev CollideAt : List (List ℕ) → List (List ℕ) → ℕ → Type 0
  CollideAt ds es i = HaveCollision hash (path_inputs hash (get_or ds i []) i (length ds) (inclusion_path hash i ds)) (path_inputs hash (get_or es i []) i (length ds) (inclusion_path hash i es))

  at_place : (ds es : List (List ℕ)) (i : ℕ) → length ds ≡ length es → length ds ≤ 2 ^ 64 → tree_hash hash ds ≡ tree_hash hash es → i < length ds → (get_or ds i [] ≡ get_or es i []) ⊎ CollideAt ds es i
  at_place ds es i same few root inside =
      elim (own_or_collision hash long (get_or es i []) i (length es) (inclusion_path hash i es) (tree_hash hash es) (path_long hash long i es) (omega arith) (own_leaf es i (omega arith) (omega arith)) ds same root) [
        | inl both ↦ inl both.0
        | inr found ↦ inr found
      ]

  pub one_list : (ds es : List (List ℕ)) → length ds ≡ length es → length ds ≤ 2 ^ 64 → tree_hash hash ds ≡ tree_hash hash es → (ds ≡ es) ⊎ ((i : ℕ) × CollideAt ds es i)
  one_list ds es same few root =
      elim (all_or_one (length ds) (λ i. get_or ds i [] ≡ get_or es i []) (CollideAt ds es) (λ i inside. at_place ds es i same few root inside)) [
        | inr found ↦ inr found
        | inl all ↦ inl (ext_get_or [] ds es same all)
      ]

-- Maps behind edges: their values, their roots, and their paths.
use Rattle.std.proofs.Common.{◌≡◌, ◌≢◌, ℕ, zero, suc, ◌+◌, List, [], ◌∷◌, ◌++◌, length, drop, Option, Some, None, refl, sym, ◌∙◌, ap, arith, append_assoc}
use Rattle.std.proofs.lemmas.List.{length-append, append-nil}
use Rattle.warg_merkle.specs.Trees.{Side, Left, Right, node_input, step_input}
use Rattle.warg_merkle.specs.SparseMap.Maps.{empty_root, map_root, map_path}
use Rattle.warg_merkle.specs.SparseTree.Nodes.{empty_roots, below, map_count, Sets}
use Rattle.warg_merkle.specs.SparseTree.Compressed.{behind, alone, forked, root_above}
use Rattle.warg_merkle.proofs.SparseMapLemmas.Owning.{empty}
use Rattle.warg_merkle.proofs.SparseTreeLemmas.EmptyRoots.{row_none, row_more}

-- an edge in two parts
pub behind_append : (e f : List Side) (m : List Side → Option (List ℕ)) → behind (e ++ f) m ≡ behind e (behind f m)
unfolding behind
behind_append [] f m = refl
behind_append (s ∷ e) f m = ap (λ (g : List Side → Option (List ℕ)). below s g) (behind_append e f m)

pub behind_one : (s : Side) (f : List Side) (m : List Side → Option (List ℕ)) → behind (s ∷ f) m ≡ below s (behind f m)
unfolding behind
behind_one s f m = refl

-- what stands behind an edge
pub at_end : (e way : List Side) (m : List Side → Option (List ℕ)) → behind e m (e ++ way) ≡ m way
unfolding behind
at_end [] way m = refl
at_end (Left ∷ e) way m = at_end e way m
at_end (Right ∷ e) way m = at_end e way m

pub at_whole : (e : List Side) (v : List ℕ) → behind e (alone v) e ≡ Some v
at_whole e v = ap (behind e (alone v)) (sym (append-nil e)) ∙ at_end e [] (alone v)

-- nothing beside it
pub none_right : (e way : List Side) (m : List Side → Option (List ℕ)) → behind e (below Left m) (e ++ Right ∷ way) ≡ None
none_right e way m = at_end e (Right ∷ way) (below Left m)

pub none_left : (e way : List Side) (m : List Side → Option (List ℕ)) → behind e (below Right m) (e ++ Left ∷ way) ≡ None
none_left e way m = at_end e (Left ∷ way) (below Right m)

pub other_tail : (s : Side) (w way : List Side) → s ∷ w ≢ s ∷ way → w ≢ way
other_tail s w way differ = λ e. differ (ap (λ u. s ∷ u) e)

-- a value put behind a side
side_others : (s : Side) (m n : List Side → Option (List ℕ)) (way : List Side) (v : List ℕ) → Sets m n way v → (other : List Side) → other ≢ s ∷ way → below s n other ≡ below s m other
side_others s m n way v sets [] differ = refl
side_others Left m n way v sets (Left ∷ w) differ = sets.others w (other_tail Left w way differ)
side_others Left m n way v sets (Right ∷ w) differ = refl
side_others Right m n way v sets (Left ∷ w) differ = refl
side_others Right m n way v sets (Right ∷ w) differ = sets.others w (other_tail Right w way differ)

side_changed : (s : Side) (m : List Side → Option (List ℕ)) (way : List Side) → below s m (s ∷ way) ≡ m way
side_changed Left m way = refl
side_changed Right m way = refl

sets_side : (s : Side) (m n : List Side → Option (List ℕ)) (way : List Side) (v : List ℕ) → Sets m n way v → Sets (below s m) (below s n) (s ∷ way) v
sets_side s m n way v sets = record { changed = side_changed s n way ∙ sets.changed; others = side_others s m n way v sets }

-- a value put behind an edge
pub sets_behind : (e : List Side) (m n : List Side → Option (List ℕ)) (way : List Side) (v : List ℕ) → Sets m n way v → Sets (behind e m) (behind e n) (e ++ way) v
unfolding behind
sets_behind [] m n way v sets = sets
sets_behind (s ∷ e) m n way v sets = sets_side s (behind e m) (behind e n) (e ++ way) v (sets_behind e m n way v sets)

-- a value put where nothing is
none_others : (s : Side) (m : List Side → Option (List ℕ)) (way : List Side) (v : List ℕ) → Sets (λ w. None) m way v → (other : List Side) → other ≢ s ∷ way → below s m other ≡ None
none_others s m way v sets [] differ = refl
none_others Left m way v sets (Left ∷ w) differ = sets.others w (other_tail Left w way differ)
none_others Left m way v sets (Right ∷ w) differ = refl
none_others Right m way v sets (Left ∷ w) differ = refl
none_others Right m way v sets (Right ∷ w) differ = sets.others w (other_tail Right w way differ)

alone_others : (v : List ℕ) (other : List Side) → other ≢ [] → alone v other ≡ None
alone_others v [] differ = absurd (differ refl)
alone_others v (s ∷ w) differ = refl

pub first_value : (way : List Side) (v : List ℕ) → Sets (λ w. None) (behind way (alone v)) way v
unfolding behind
first_value [] v = record { changed = refl; others = alone_others v }
first_value (s ∷ way) v = record { changed = side_changed s (behind way (alone v)) way ∙ at_whole way v; others = none_others s (behind way (alone v)) way v (first_value way v) }

-- a value put in place of another
pub next_value : (way : List Side) (u v : List ℕ) → Sets (behind way (alone u)) (behind way (alone v)) way v
next_value way u v = rw (append-nil way) at (sets_behind way (alone u) (alone v) [] v (record { changed = refl; others = λ other differ. alone_others v other differ ∙ sym (alone_others u other differ) }))

-- a value put on one of two sides
module _ (l r m : List Side → Option (List ℕ)) (way : List Side) (v : List ℕ) where
  left_others : Sets l m way v → (other : List Side) → other ≢ Left ∷ way → forked m r other ≡ forked l r other
  left_others sets [] differ = refl
  left_others sets (Left ∷ w) differ = sets.others w (other_tail Left w way differ)
  left_others sets (Right ∷ w) differ = refl

  pub sets_left : Sets l m way v → Sets (forked l r) (forked m r) (Left ∷ way) v
  sets_left sets = record { changed = sets.changed; others = left_others sets }

  right_others : Sets r m way v → (other : List Side) → other ≢ Right ∷ way → forked l m other ≡ forked l r other
  right_others sets [] differ = refl
  right_others sets (Left ∷ w) differ = refl
  right_others sets (Right ∷ w) differ = sets.others w (other_tail Right w way differ)

  pub sets_right : Sets r m way v → Sets (forked l r) (forked l m) (Right ∷ way) v
  sets_right sets = record { changed = sets.changed; others = right_others sets }

-- a value put where ways part
module _ (m n : List Side → Option (List ℕ)) (way : List Side) (v : List ℕ) (sets : Sets (λ w. None) n way v) where
  parted_left : (other : List Side) → other ≢ Left ∷ way → forked n m other ≡ below Right m other
  parted_left [] differ = refl
  parted_left (Left ∷ w) differ = sets.others w (other_tail Left w way differ)
  parted_left (Right ∷ w) differ = refl

  pub part_left : Sets (below Right m) (forked n m) (Left ∷ way) v
  part_left = record { changed = sets.changed; others = parted_left }

  parted_right : (other : List Side) → other ≢ Right ∷ way → forked m n other ≡ below Left m other
  parted_right [] differ = refl
  parted_right (Left ∷ w) differ = refl
  parted_right (Right ∷ w) differ = sets.others w (other_tail Right w way differ)

  pub part_right : Sets (below Left m) (forked m n) (Right ∷ way) v
  part_right = record { changed = sets.changed; others = parted_right }

-- how many values there are
pub none_count : (d : ℕ) → map_count d (λ way. None) ≡ 0
unfolding map_count
none_count zero = refl
none_count (suc d) = omega (arith, none_count d)

pub count_behind : (e : List Side) (n h : ℕ) (m : List Side → Option (List ℕ)) → n ≡ h + length e → map_count n (behind e m) ≡ map_count h m
unfolding map_count behind
count_behind [] n h m is = let same : n ≡ h = omega arith in rw same refl
count_behind (Left ∷ e) n h m is = let more : n ≡ suc (h + length e) = omega arith in rw more (omega (arith, count_behind e (h + length e) h m refl, none_count (h + length e)))
count_behind (Right ∷ e) n h m is = let more : n ≡ suc (h + length e) = omega arith in rw more (omega (arith, count_behind e (h + length e) h m refl, none_count (h + length e)))

pub count_alone : (way : List Side) (n : ℕ) (v : List ℕ) → n ≡ length way → map_count n (behind way (alone v)) ≡ 1
unfolding map_count
count_alone way n v is = count_behind way n 0 (alone v) (omega arith)

module _ (hash : List ℕ → List ℕ) where
  -- the root behind an edge, and the one above it
  pub root_behind : (e : List Side) (n h : ℕ) (m : List Side → Option (List ℕ)) → n ≡ h + length e → map_root hash n (behind e m) ≡ root_above hash h e (map_root hash h m)
  unfolding map_root behind root_above
  root_behind [] n h m is = let same : n ≡ h = omega arith in rw same refl
  root_behind (Left ∷ e) n h m is =
      let more : n ≡ suc (h + length e) = omega arith in
      rw more (ap (λ r. hash (node_input r (map_root hash (h + length e) (λ w. None)))) (root_behind e (h + length e) h m refl) ∙ ap (λ r. hash (node_input (root_above hash h e (map_root hash h m)) r)) (empty hash (h + length e)))
  root_behind (Right ∷ e) n h m is =
      let more : n ≡ suc (h + length e) = omega arith in
      rw more (ap (λ r. hash (node_input r (map_root hash (h + length e) (behind e m)))) (empty hash (h + length e)) ∙ ap (λ r. hash (node_input (empty_root hash (h + length e)) r)) (root_behind e (h + length e) h m refl))

  -- an edge in two parts
  pub root_append : (e f : List Side) (h k : ℕ) (r : List ℕ) → k ≡ h + length f → root_above hash h (e ++ f) r ≡ root_above hash k e (root_above hash h f r)
  unfolding root_above
  root_append [] f h k r is = refl
  root_append (s ∷ e) f h k r is =
      let high : h + length (e ++ f) ≡ k + length e = omega (arith, length-append e f) in
      ap (λ x. hash (step_input s x (empty_root hash (h + length (e ++ f))))) (root_append e f h k r is)
      ∙ ap (λ n. hash (step_input s (root_above hash k e (root_above hash h f r)) (empty_root hash n))) high

  pub root_side : (s : Side) (e : List Side) (h k : ℕ) (r : List ℕ) → k ≡ h + length e → root_above hash h (s ∷ e) r ≡ hash (step_input s (root_above hash h e r) (empty_root hash k))
  unfolding root_above
  root_side s e h k r is = ap (λ n. hash (step_input s (root_above hash h e r) (empty_root hash n))) (sym is)

  pub root_here : (h : ℕ) (r : List ℕ) → root_above hash h [] r ≡ r
  unfolding root_above
  root_here h r = refl

  -- the root of two sides
  pub root_forked : (l r : List Side → Option (List ℕ)) (n k : ℕ) → n ≡ suc k → map_root hash n (forked l r) ≡ hash (node_input (map_root hash k l) (map_root hash k r))
  unfolding map_root
  root_forked l r n k is = rw is refl

  -- the path where nothing is
  pub path_none : (way : List Side) → map_path hash (λ w. None) way ≡ empty_roots hash (length way)
  unfolding map_path empty_roots
  path_none [] = refl
  path_none (Left ∷ way) = ap (λ ps. ps ++ map_root hash (length way) (λ w. None) ∷ []) (path_none way) ∙ ap (λ r. empty_roots hash (length way) ++ r ∷ []) (empty hash (length way))
  path_none (Right ∷ way) = ap (λ ps. ps ++ map_root hash (length way) (λ w. None) ∷ []) (path_none way) ∙ ap (λ r. empty_roots hash (length way) ++ r ∷ []) (empty hash (length way))

  -- the path to one value
  pub path_alone : (way : List Side) (v : List ℕ) → map_path hash (behind way (alone v)) way ≡ empty_roots hash (length way)
  unfolding map_path empty_roots behind
  path_alone [] v = refl
  path_alone (Left ∷ way) v = ap (λ ps. ps ++ map_root hash (length way) (λ w. None) ∷ []) (path_alone way v) ∙ ap (λ r. empty_roots hash (length way) ++ r ∷ []) (empty hash (length way))
  path_alone (Right ∷ way) v = ap (λ ps. ps ++ map_root hash (length way) (λ w. None) ∷ []) (path_alone way v) ∙ ap (λ r. empty_roots hash (length way) ++ r ∷ []) (empty hash (length way))

  -- the path through an edge
  one_more : (e way : List Side) (m : List Side → Option (List ℕ)) (low n k : ℕ) → low ≡ length way → k ≡ low + length e → n ≡ suc k → map_path hash (behind e m) (e ++ way) ≡ map_path hash m way ++ drop low (empty_roots hash k) → map_path hash (behind e m) (e ++ way) ++ map_root hash (length (e ++ way)) (λ w. None) ∷ [] ≡ map_path hash m way ++ drop low (empty_roots hash n)
  one_more e way m low n k is high next path =
      let long : length (e ++ way) ≡ k = omega (arith, length-append e way) in
      ap (λ ps. ps ++ map_root hash (length (e ++ way)) (λ w. None) ∷ []) path
      ∙ ap (λ r. (map_path hash m way ++ drop low (empty_roots hash k)) ++ r ∷ []) (empty hash (length (e ++ way)) ∙ ap (empty_root hash) long)
      ∙ append_assoc (map_path hash m way) (drop low (empty_roots hash k)) (empty_root hash k ∷ [])
      ∙ ap (λ ps. map_path hash m way ++ ps) (sym (row_more hash low k n (omega arith) next))

  pub path_behind : (e way : List Side) (m : List Side → Option (List ℕ)) (low n : ℕ) → low ≡ length way → n ≡ low + length e → map_path hash (behind e m) (e ++ way) ≡ map_path hash m way ++ drop low (empty_roots hash n)
  unfolding map_path behind
  path_behind [] way m low n is high = sym (ap (λ ps. map_path hash m way ++ ps) (row_none hash low n (omega arith)) ∙ append-nil (map_path hash m way))
  path_behind (Left ∷ e) way m low n is high = one_more e way m low n (low + length e) is refl (omega arith) (path_behind e way m low (low + length e) is refl)
  path_behind (Right ∷ e) way m low n is high = one_more e way m low n (low + length e) is refl (omega arith) (path_behind e way m low (low + length e) is refl)

  -- the path beside a map
  pub path_right : (way : List Side) (m : List Side → Option (List ℕ)) (k : ℕ) → length way ≡ k → map_path hash (below Left m) (Right ∷ way) ≡ empty_roots hash k ++ map_root hash k m ∷ []
  unfolding map_path
  path_right way m k long = ap (λ ps. ps ++ map_root hash (length way) m ∷ []) (path_none way) ∙ ap (λ n. empty_roots hash n ++ map_root hash n m ∷ []) long

  pub path_left : (way : List Side) (m : List Side → Option (List ℕ)) (k : ℕ) → length way ≡ k → map_path hash (below Right m) (Left ∷ way) ≡ empty_roots hash k ++ map_root hash k m ∷ []
  unfolding map_path
  path_left way m k long = ap (λ ps. ps ++ map_root hash (length way) m ∷ []) (path_none way) ∙ ap (λ n. empty_roots hash n ++ map_root hash n m ∷ []) long

  -- the path on one of two sides
  pub path_forked_left : (l r : List Side → Option (List ℕ)) (way : List Side) (k : ℕ) → length way ≡ k → map_path hash (forked l r) (Left ∷ way) ≡ map_path hash l way ++ map_root hash k r ∷ []
  unfolding map_path
  path_forked_left l r way k long = ap (λ n. map_path hash l way ++ map_root hash n r ∷ []) long

  pub path_forked_right : (l r : List Side → Option (List ℕ)) (way : List Side) (k : ℕ) → length way ≡ k → map_path hash (forked l r) (Right ∷ way) ≡ map_path hash r way ++ map_root hash k l ∷ []
  unfolding map_path
  path_forked_right l r way k long = ap (λ n. map_path hash r way ++ map_root hash n l ∷ []) long

pub length-map_path : (hash : List ℕ → List ℕ) (m : List Side → Option (List ℕ)) (way : List Side) → length (map_path hash m way) ≡ length way
unfolding map_path
length-map_path hash m [] = refl
length-map_path hash m (Left ∷ way) = omega (arith, length-append (map_path hash (λ w. m (Left ∷ w)) way) (map_root hash (length way) (λ w. m (Right ∷ w)) ∷ []), length-map_path hash (λ w. m (Left ∷ w)) way)
length-map_path hash m (Right ∷ way) = omega (arith, length-append (map_path hash (λ w. m (Right ∷ w)) way) (map_root hash (length way) (λ w. m (Left ∷ w)) ∷ []), length-map_path hash (λ w. m (Right ∷ w)) way)

-- The rest of a key's way up over a short path.
use Rattle.std.proofs.Common.{◌≡◌, ℕ, suc, ◌<◌, false, if◌then◌else◌, List, length, Option, Some, refl, sym, ◌∙◌, ap}
use Rattle.warg_merkle.specs.Trees.{Left, Right, step_input, climb}
use Rattle.warg_merkle.specs.SparseMap.Maps.{is_right, sides_up}
use Rattle.warg_merkle.specs.MapProof.ShortForms.{others_above, sibling_at, siblings, full_path, IsCanonical}

module _ (hash : List ℕ → List ℕ) where
  -- where the way up ends from a depth and a height on
  unfoldable pub end_of : ℕ → ℕ → List ℕ → List ℕ → List (List ℕ) → List ℕ → Option (List ℕ)
  end_of n h key bits os x = climb hash (sides_up n key) (siblings hash n h bits os) x

  pub one_up : (n d h k : ℕ) (key bits : List ℕ) (os : List (List ℕ)) (x : List ℕ) → n ≡ suc d → k ≡ suc h → end_of n h key bits os x ≡ end_of d k key bits (others_above h bits os) (hash (step_input (if is_right key d then Right else Left) x (sibling_at hash h bits os)))
  unfolding end_of climb sides_up siblings
  one_up n d h k key bits os x is next = ap (λ m. climb hash (sides_up m key) (siblings hash m h bits os) x) is ∙ ap (λ j. climb hash (sides_up d key) (siblings hash d j bits (others_above h bits os)) (hash (step_input (if is_right key d then Right else Left) x (sibling_at hash h bits os)))) (sym next)

  pub at_top : (n h : ℕ) (key bits : List ℕ) (os : List (List ℕ)) (x : List ℕ) → n ≡ 0 → end_of n h key bits os x ≡ Some x
  unfolding end_of climb sides_up siblings
  at_top n h key bits os x is = ap (λ m. climb hash (sides_up m key) (siblings hash m h bits os) x) is

  -- the same of what is left of the others
  pub some_left : (n d h : ℕ) (bits : List ℕ) (os : List (List ℕ)) → n ≡ suc d → IsCanonical hash n h bits os → is_right bits h ≡ false → 0 < length os
  unfolding IsCanonical
  some_left n d h bits os is c stays = ((rw is at c).0 stays).0

  pub canonical_rest : (n d h k : ℕ) (bits : List ℕ) (os : List (List ℕ)) → n ≡ suc d → k ≡ suc h → IsCanonical hash n h bits os → IsCanonical hash d k bits (others_above h bits os)
  unfolding IsCanonical
  canonical_rest n d h k bits os is next c = rw next ((rw is at c).1)

  -- the whole way up
  pub whole : (key bits : List ℕ) (os : List (List ℕ)) (x : List ℕ) → end_of 256 0 key bits os x ≡ climb hash (sides_up 256 key) (full_path hash bits os) x
  unfolding end_of full_path
  whole key bits os x = refl

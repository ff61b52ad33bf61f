-- Maps whose values are all prefix encodings of leaves.
use Rattle.std.proofs.Common.{◌≡◌, ◌≢◌, ◌⊎◌, ℕ, true, List, [], ◌∷◌, Option, Some, None, Result, Ok, Err, OnOk, OnErr, is_some, inl, inr, refl, sym, ◌∙◌, ap, subst}
use Rattle.std.specs.Option.{option_map, ForSome}
use Rattle.warg_merkle.specs.Trees.{Side, Left, Right}
use Rattle.warg_merkle.specs.SparseTree.Nodes.{Sets}
use Rattle.warg_registry.specs.declared.leaf.MapLeaf.{MapLeaf}
use Rattle.warg_registry.specs.PrefixEncodings.{map_leaf_encoding_of}
use Rattle.warg_transparency.specs.MapLeaves.{IsLeafEncoding}

more_same : (s : Side) (a b : List Side) → (a ≡ b) ⊎ (a ≢ b) → ((s ∷ a) ≡ (s ∷ b)) ⊎ ((s ∷ a) ≢ (s ∷ b))
more_same s a b (inl is) = inl (ap (λ (w : List Side). s ∷ w) is)
more_same s a b (inr is_not) = inr (λ e. is_not (cc e))

-- ways are equal or not
pub is_same_way : (a b : List Side) → (a ≡ b) ⊎ (a ≢ b)
is_same_way [] [] = inl refl
is_same_way [] (s ∷ b) = inr (λ e. cc e)
is_same_way (s ∷ a) [] = inr (λ e. cc e)
is_same_way (Left ∷ a) (Left ∷ b) = more_same Left a b (is_same_way a b)
is_same_way (Left ∷ a) (Right ∷ b) = inr (λ e. cc e)
is_same_way (Right ∷ a) (Left ∷ b) = inr (λ e. cc e)
is_same_way (Right ∷ a) (Right ∷ b) = more_same Right a b (is_same_way a b)

set_one : (m n : List Side → Option (List ℕ)) (way w : List Side) (value v : List ℕ) → Sets m n way value → IsLeafEncoding value
    → ForSome (m w) IsLeafEncoding → n w ≡ Some v → (w ≡ way) ⊎ (w ≢ way) → IsLeafEncoding v
set_one m n way w value v sets is before at (inl same) =
    let there : Some value ≡ Some v = sym sets.changed ∙ ap n (sym same) ∙ at in
    let equal : value ≡ v = cc in
    subst IsLeafEncoding equal is
set_one m n way w value v sets is before at (inr other) = before v (sym (sets.others w other) ∙ at)

-- after an insertion, or where it is refused
pub still_leaves : {T E : Type 0} (m n : List Side → Option (List ℕ)) (r : Result T E) (way : List Side) (value : List ℕ)
    → OnOk r (Sets m n way value) → OnErr r ((w : List Side) → n w ≡ m w) → IsLeafEncoding value
    → ((w : List Side) → ForSome (m w) IsLeafEncoding) → (w : List Side) → ForSome (n w) IsLeafEncoding
still_leaves m n (Ok x) way value ok err is before = λ w v at. set_one m n way w value v ok is (before w) at (is_same_way w way)
still_leaves m n (Err e) way value ok err is before = λ w v at. before w v (sym (err w) ∙ at)

-- a leaf that is read from what is there is there
pub some_leaf : (found : Option MapLeaf) (v : List ℕ) → option_map map_leaf_encoding_of found ≡ Some v → is_some found ≡ true
some_leaf (Some leaf) v is = refl
some_leaf None v is = cc

-- The map of leaves that are put from the last one on.
use Rattle.std.proofs.Common.{◌≡◌, ◌-◌, ◌<◌, ◌≤◌, ℕ, suc, Bool, true, false, List, ◌∷◌, drop, get_or, length, Option, Some, None, is_none, is_some, not, sym, ◌∙◌, ap, subst, arith}
use Rattle.std.specs.List.{All}
use Rattle.std.specs.Option.{option_map}
use Rattle.std.proofs.Math.Seq.{drop-cons}
use Rattle.std.proofs.lemmas.List.Elements.{All-cons}
use Rattle.warg_registry.specs.PrefixEncodings.{map_leaf_encoding_of}
use Rattle.warg_registry.specs.declared.leaf.LogLeaf.{LogLeaf}
use Rattle.warg_registry.specs.declared.leaf.MapLeaf.{MapLeaf}
use Rattle.warg_merkle.specs.Trees.{Side}
use Rattle.warg_merkle.specs.SparseTree.Nodes.{Sets}
use Rattle.warg_transparency.specs.Heads.{head_leaf}
use Rattle.warg_transparency.specs.MapTree.{way_of}
use Rattle.warg_transparency.specs.RegistryTrees.{HasHashes, HasNone, IsMapOf}
use Rattle.warg_transparency.proofs.RegistryLemmas.{last_found, none_found, passed_over, put_before}

-- the leaves from a place on, whose map this is, and one before them
module _ (leaves : List LogLeaf) (at : ℕ) (d : LogLeaf) (m : List Side → Option (List ℕ)) (some : 0 < at) (within : at ≤ length leaves) (is : HasHashes (get_or leaves (at - 1) d)) (are : All HasHashes (drop at leaves)) (map_is : IsMapOf (drop at leaves) m) where
  abbrev here : LogLeaf
  here = get_or leaves (at - 1) d

  opened : drop (at - 1) leaves ≡ here ∷ drop at leaves
  opened = let next : suc (at - 1) ≡ at = omega (arith, some) in drop-cons leaves (at - 1) d (omega (arith, some, within)) ∙ ap (λ n. here ∷ drop n leaves) next

  pub one_more : All HasHashes (drop (at - 1) leaves)
  one_more = subst (All HasHashes) (sym opened) (All-cons HasHashes here (drop at leaves) is are)

  module _ (found : Option MapLeaf) (there : option_map map_leaf_encoding_of found ≡ m (way_of here.log_id)) where
    is_new : is_none found ≡ true → HasNone (drop at leaves) here.log_id
    is_new none = none_in found none there
      where
        none_in : (f : Option MapLeaf) → is_none f ≡ true → option_map map_leaf_encoding_of f ≡ m (way_of here.log_id) → HasNone (drop at leaves) here.log_id
        none_in None none there = none_found (drop at leaves) m here.log_id are is.log_id map_is there
        none_in (Some leaf) none there = absurd (cc none)

    -- the first of its log
    pub put : (n : List Side → Option (List ℕ)) (none : Bool) → is_some found ≡ not none → none ≡ true → Sets m n (way_of here.log_id) (map_leaf_encoding_of (head_leaf here.record_id)) → IsMapOf (drop (at - 1) leaves) n
    put n none says so sets = subst (λ ls. IsMapOf ls n) (sym opened) (put_before here (drop at leaves) m are is map_is n (is_new (ap not (says ∙ ap not so))) sets)

    -- one before another of its log
    pub over : (none : Bool) → is_some found ≡ not none → none ≡ false → IsMapOf (drop (at - 1) leaves) m
    over none says so = over_in found (ap not (says ∙ ap not so)) there
      where
        over_in : (f : Option MapLeaf) → is_none f ≡ false → option_map map_leaf_encoding_of f ≡ m (way_of here.log_id) → IsMapOf (drop (at - 1) leaves) m
        over_in None not_none there = absurd (cc not_none)
        over_in (Some leaf) not_none there =
            let later = last_found (drop at leaves) m here.log_id are is.log_id map_is (map_leaf_encoding_of leaf) there in
            subst (λ ls. IsMapOf ls m) (sym opened) (passed_over here (drop at leaves) m are is map_is later.0 later.1)

-- The map of entries, and those of the entries below each side.
use Rattle.std.proofs.Common.{◌≡◌, ◌⊎◌, inl, inr, ℕ, zero, suc, List, [], ◌∷◌, ◌++◌, length, refl, sym, subst, ◌∙◌, ap, arith, Option, None}
use Rattle.std.specs.Prelude.{true, false}
use Rattle.std.specs.List.{AllWithin, Contains}
use Rattle.std.proofs.lemmas.Bool.{cond-false, cond-true}
use Rattle.std.specs.List.Sorted.{IsPermutation}
use Rattle.std.proofs.lemmas.List.Sorted.{Contains-permutation, IsPermutation-sym}
use Rattle.std.proofs.lemmas.List.Elements.{Contains-append_left, Contains-append_right, Contains-append_cases}
use Rattle.sha2.specs.Sha256.{sha256}
use Rattle.warg_merkle.specs.Trees.{Side, Left, Right, node_input}
use Rattle.warg_merkle.specs.SparseMap.Maps.{empty_root, is_right, map_path, map_root, value_input, way_down}
use Rattle.warg_merkle.specs.SparseTree.Nodes.{side_at, way_from}
use Rattle.warg_merkle.proofs.SparseTreeLemmas.Ways.{way_end, way_side, whole_way}
use Rattle.warg_listed_map.proofs.PartingLemmas.{in_front, in_back}
use Rattle.warg_listed_map.specs.declared.entry.Entry.{Entry}
use Rattle.warg_listed_map.specs.ListedMaps.{IsLatest, IsMapOf}

-- ---- nothing, one leaf, and a node

pub root_of_nothing : (d : ℕ) (m : List Side → Option (List ℕ)) → ((way : List Side) → m way ≡ None) → map_root sha256 d m ≡ empty_root sha256 d
unfolding map_root empty_root
root_of_nothing zero m none = ap (λ v. sha256 (value_input v)) (none [])
root_of_nothing (suc d) m none =
    ap (λ l. sha256 (node_input l (map_root sha256 d (λ w. m (Right ∷ w))))) (root_of_nothing d (λ w. m (Left ∷ w)) (λ w. none (Left ∷ w)))
    ∙ ap (λ r. sha256 (node_input (empty_root sha256 d) r)) (root_of_nothing d (λ w. m (Right ∷ w)) (λ w. none (Right ∷ w)))

pub root_at_leaf : (n : ℕ) (m : List Side → Option (List ℕ)) → n ≡ 0 → map_root sha256 n m ≡ sha256 (value_input (m []))
unfolding map_root
root_at_leaf n m is = rw is refl

pub root_at_node : (n d : ℕ) (m : List Side → Option (List ℕ)) → n ≡ suc d
    → map_root sha256 n m ≡ sha256 (node_input (map_root sha256 d (λ w. m (Left ∷ w))) (map_root sha256 d (λ w. m (Right ∷ w))))
unfolding map_root
root_at_node n d m is = rw is refl

pub path_at_leaf : (m : List Side → Option (List ℕ)) (way : List Side) → way ≡ [] → map_path sha256 m way ≡ []
unfolding map_path
path_at_leaf m way is = rw is refl

pub path_at_left : (m : List Side → Option (List ℕ)) (way rest : List Side) → way ≡ Left ∷ rest
    → map_path sha256 m way ≡ map_path sha256 (λ w. m (Left ∷ w)) rest ++ map_root sha256 (length rest) (λ w. m (Right ∷ w)) ∷ []
unfolding map_path
path_at_left m way rest is = rw is refl

pub path_at_right : (m : List Side → Option (List ℕ)) (way rest : List Side) → way ≡ Right ∷ rest
    → map_path sha256 m way ≡ map_path sha256 (λ w. m (Right ∷ w)) rest ++ map_root sha256 (length rest) (λ w. m (Left ∷ w)) ∷ []
unfolding map_path
path_at_right m way rest is = rw is refl

-- ---- entries

no_entry : (entries : List Entry) (e : Entry) → length entries ≡ 0 → Contains entries e → ⊥
no_entry entries e none (k, below, is) = absurd (omega (arith, below, none))

-- no entries: the map has nothing
pub empty_map : (way : List ℕ → List Side) (entries : List Entry) (m : List Side → Option (List ℕ)) → length entries ≡ 0
    → IsMapOf way entries m → (d : ℕ) → map_root sha256 d m ≡ empty_root sha256 d
empty_map way entries m none is d = root_of_nothing d m (λ at. is.none at (λ e among same. no_entry entries e none among))

-- entries of one key
pub leaf_of_latest : (n depth : ℕ) (entries : List Entry) (m : List Side → Option (List ℕ)) (e : Entry) → n ≡ 0 → IsLatest entries e
    → IsMapOf (way_from n depth) entries m → e.leaf ≡ map_root sha256 n m
leaf_of_latest n depth entries m e end last is =
    sym (root_at_leaf n m end
    ∙ ap (λ at. sha256 (value_input (m at))) (sym (way_end n depth e.key end))
    ∙ is.leaf e (record { among = last.among; latest = λ o among same. last.latest o among }))

-- the entries of a side are those among all whose keys go there
pub record AreOfSide (depth : ℕ) (side : Side) (all some : List Entry) : Type 0 where
  pub among : (e : Entry) → Contains some e → Contains all e
  pub goes : (e : Entry) → Contains some e → side_at e.key depth ≡ side
  pub each : (e : Entry) → Contains all e → side_at e.key depth ≡ side → Contains some e

tail_of : (s t : Side) (a b : List Side) → s ∷ a ≡ t ∷ b → a ≡ b
tail_of s t a b e = cc

head_of : (s t : Side) (a b : List Side) → s ∷ a ≡ t ∷ b → s ≡ t
head_of s t a b e = cc

module _ (n d depth k : ℕ) (side : Side) (all some : List Entry) (m : List Side → Option (List ℕ)) (is : n ≡ suc d) (next : k ≡ suc depth)
    (are : AreOfSide depth side all some) (of : IsMapOf (way_from n depth) all m) where
  way_of_side : (e : Entry) → Contains some e → way_from n depth e.key ≡ side ∷ way_from d k e.key
  way_of_side e among = way_side n depth d k e.key is next ∙ ap (λ s. s ∷ way_from d k e.key) (are.goes e among)

  -- the map below that side
  pub below_side : IsMapOf (way_from d k) some (λ w. m (side ∷ w))
  below_side = record {
    leaf = λ e stands.
        ap (λ at. sha256 (value_input (m at))) (sym (way_of_side e stands.among))
        ∙ of.leaf e (record {
          among = are.among e stands.among;
          latest = λ o among same.
              let both : side_at o.key depth ∷ way_from d k o.key ≡ side ∷ way_from d k e.key =
              sym (way_side n depth d k o.key is next) ∙ same ∙ way_of_side e stands.among in
              stands.latest o (are.each o among (head_of _ _ _ _ both)) (tail_of _ _ _ _ both);
        });
    none = λ at nothing. of.none (side ∷ at) (λ e among same.
        let both : side_at e.key depth ∷ way_from d k e.key ≡ side ∷ at = sym (way_side n depth d k e.key is next) ∙ same in
        nothing e (are.each e among (head_of _ _ _ _ both)) (tail_of _ _ _ _ both));
  }

-- entries in another order that are cut in two
module _ (depth : ℕ) (old new front back : List Entry) (same : IsPermutation old new) (cut : new ≡ front ++ back) where
  from_front : (e : Entry) → Contains front e → Contains old e
  from_front e among =
      Contains-permutation new old e (IsPermutation-sym old new same) (subst (λ es. Contains es e) (sym cut) (Contains-append_left front back e among))

  from_back : (e : Entry) → Contains back e → Contains old e
  from_back e among =
      Contains-permutation new old e (IsPermutation-sym old new same) (subst (λ es. Contains es e) (sym cut) (Contains-append_right front back e among))

  in_either : (e : Entry) → Contains old e → Contains front e ⊎ Contains back e
  in_either e among = Contains-append_cases front back e (subst (λ es. Contains es e) cut (Contains-permutation old new e same among))

  module _ (left : (e : Entry) → Contains front e → side_at e.key depth ≡ Left) (right : (e : Entry) → Contains back e → side_at e.key depth ≡ Right) where
    are_left : AreOfSide depth Left old front
    are_left = record {
      among = from_front;
      goes = left;
      each = λ e among goes. elim (in_either e among) [
        | inl here ↦ here
        | inr there ↦ let no : Left ≡ Right = sym goes ∙ right e there in cc
      ];
    }

    are_right : AreOfSide depth Right old back
    are_right = record {
      among = from_back;
      goes = right;
      each = λ e among goes. elim (in_either e among) [
        | inl here ↦ let no : Left ≡ Right = sym (left e here) ∙ goes in cc
        | inr there ↦ there
      ];
    }

module _ (depth : ℕ) (old new front back : List Entry) (count : ℕ) (same : IsPermutation old new) (cut : new ≡ front ++ back) (long : length front ≡ count)
    (lefts : AllWithin (λ (e : Entry). is_right e.key depth ≡ false) new 0 count) (rights : AllWithin (λ (e : Entry). is_right e.key depth ≡ true) new count (length new)) where
  go_left : (e : Entry) → Contains front e → side_at e.key depth ≡ Left
  go_left e among = cond-false (is_right e.key depth) Right Left (in_front (λ (o : Entry). is_right o.key depth ≡ false) new front back count cut long lefts e among)

  go_right : (e : Entry) → Contains back e → side_at e.key depth ≡ Right
  go_right e among = cond-true (is_right e.key depth) Right Left (in_back (λ (o : Entry). is_right o.key depth ≡ true) new front back count cut long (length new) refl rights e among)

  pub left_part : AreOfSide depth Left old front
  left_part = are_left depth old new front back same cut go_left go_right

  pub right_part : AreOfSide depth Right old back
  right_part = are_right depth old new front back same cut go_left go_right

-- whole ways
pub by_ways : (entries : List Entry) (m : List Side → Option (List ℕ)) → IsMapOf way_down entries m → IsMapOf (way_from 256 0) entries m
by_ways entries m of = record {
  leaf = λ e stands.
      ap (λ at. sha256 (value_input (m at))) (whole_way e.key)
      ∙ of.leaf e (record {
        among = stands.among;
        latest = λ o among same. stands.latest o among (whole_way o.key ∙ same ∙ sym (whole_way e.key));
      });
  none = λ at nothing. of.none at (λ e among same. nothing e among (whole_way e.key ∙ same));
}

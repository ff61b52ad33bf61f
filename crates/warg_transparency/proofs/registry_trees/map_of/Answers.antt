use Rattle.std.proofs.Common.{◌≡◌, List, [], drop, length, sym, subst, arith}
use Rattle.std.specs.List.{All}
use Rattle.std.proofs.Math.Seq.{drop-length}
use Rattle.std.proofs.lemmas.List.Elements.{All-nil}
use Rattle.warg_registry.specs.declared.leaf.LogLeaf.{LogLeaf}
use Rattle.warg_transparency.specs.MapTree.{leaves_of}
use Rattle.warg_transparency.specs.RegistryTrees.{HasHashes, IsMapOf}
use Rattle.warg_transparency.proofs.RegistryLemmas.{of_none}
use Rattle.warg_transparency.proofs.MapFromEnd.{one_more, over, put}
use Rattle.warg_transparency.proofs.registry_trees.map_of.Goals as goal

pub loop-at-init : goal.loop-at-init
loop-at-init c =
    let leaves : List LogLeaf = c.args.leaves.now in
    let none : drop (length leaves) leaves ≡ [] = drop-length leaves in
    record {
      within = omega arith;
      hashes = subst (All HasHashes) (sym none) (All-nil HasHashes);
      is_map = subst (λ ls. IsMapOf ls (leaves_of c.in_ok-map.map)) (sym none) (of_none (leaves_of c.in_ok-map.map) c.in_ok-map.ensures);
    }

pub loop-at-preserved-in_ok-insert : goal.loop-at-preserved-in_ok-insert
loop-at-preserved-in_ok-insert c =
    let leaves : List LogLeaf = c.args.leaves.now in
    let i = c.loop-at.invariant in
    let m = leaves_of c.loop-at.map in
    record {
      within = omega arith;
      hashes = one_more leaves c.loop-at.at _ m (omega arith) i.within c.leaf_range.ensures i.hashes i.is_map;
      is_map = put leaves c.loop-at.at _ m (omega arith) i.within c.leaf_range.ensures i.hashes i.is_map c.get.result c.get.ensures (leaves_of c.insert.new.self) c.is_none.result c.is_none.ensures c.if-is_none.true c.in_ok-insert.ensures.ok;
    }

pub loop-at-preserved : goal.loop-at-preserved
loop-at-preserved c =
    let leaves : List LogLeaf = c.args.leaves.now in
    let i = c.loop-at.invariant in
    let m = leaves_of c.loop-at.map in
    record {
      within = omega arith;
      hashes = one_more leaves c.loop-at.at _ m (omega arith) i.within c.leaf_range.ensures i.hashes i.is_map;
      is_map = over leaves c.loop-at.at _ m (omega arith) i.within c.leaf_range.ensures i.hashes i.is_map c.get.result c.get.ensures c.is_none.result c.is_none.ensures c.if-is_none.false;
    }

pub returns-clause-map : goal.returns-clause-map
returns-clause-map c =
    let first : c.loop-at.at ≡ 0 = omega arith in
    subst (λ n. IsMapOf (drop n c.args.leaves.now) (leaves_of c.loop-at.map)) first c.loop-at.invariant.is_map

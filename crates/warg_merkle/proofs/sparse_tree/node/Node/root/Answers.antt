use Rattle.std.proofs.Common.{◌-◌, length, arith, ap, refl, sym, ◌∙◌}
use Rattle.sha2.specs.Sha256.{sha256}
use Rattle.warg_merkle.specs.SparseMap.Maps.{map_root}
use Rattle.warg_merkle.proofs.SparseTreeLemmas.EmptyRoots.{length-empty_roots, empty_at}
use Rattle.warg_merkle.proofs.SparseMapLemmas.Owning.{empty}
use Rattle.warg_merkle.proofs.SparseTreeLemmas.Open.{values_none, kept, above, inside, root_leaf, root_branch}
use Rattle.warg_merkle.proofs.sparse_tree.node.Node.root.Goals as goal

pub bounds-empties-depth : goal.bounds-empties-depth
bounds-empties-depth c = omega (arith, ap length c.requires.empties, length-empty_roots sha256 257)

pub returns-in-Empty : goal.returns-in-Empty
returns-in-Empty c =
    let d = c.args.depth in
    empty_at sha256 c.args.empties.now (256 - d) (256 - d) c.requires.empties refl (omega arith) ∙ sym (empty sha256 (256 - d)) ∙ ap (map_root sha256 (256 - d)) (sym (values_none c.args.self.now d c.in-Empty.is))

pub returns-in-Leaf : goal.returns-in-Leaf
returns-in-Leaf c = rw c.deref.ensures at c.root.ensures ∙ root_leaf sha256 c.args.self.now c.args.depth c.requires.in_tree c.in-Leaf.leaf c.in-Leaf.is

pub returns-in-Branch : goal.returns-in-Branch
returns-in-Branch c = rw c.deref-in-Branch.ensures at c.root-in-Branch.ensures ∙ root_branch sha256 c.args.self.now c.args.depth c.requires.in_tree c.in-Branch.branch c.in-Branch.is c.requires.hashed

pub root-requires-clause-kept : goal.root-requires-clause-kept
root-requires-clause-kept c = rw c.deref.ensures (kept sha256 c.args.self.now c.args.depth c.in-Leaf.leaf c.in-Leaf.is c.requires.hashed)

pub root-requires-in-Branch-clause-above : goal.root-requires-in-Branch-clause-above
root-requires-in-Branch-clause-above c = omega (arith, above sha256 c.args.self.now c.args.depth c.in-Branch.branch c.in-Branch.is c.requires.hashed, ap (λ v. v.depth) c.deref-in-Branch.ensures)

pub root-requires-in-Branch-clause-in_tree : goal.root-requires-in-Branch-clause-in_tree
root-requires-in-Branch-clause-in_tree c = omega (arith, inside sha256 c.args.self.now c.args.depth c.in-Branch.branch c.in-Branch.is c.requires.hashed, ap (λ v. v.depth) c.deref-in-Branch.ensures)

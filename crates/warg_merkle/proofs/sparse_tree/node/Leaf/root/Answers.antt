use Rattle.std.proofs.Common.{◌-◌, ◌∙◌, ap}
use Rattle.sha2.specs.Sha256.{sha256}
use Rattle.warg_merkle.specs.Trees.{leaf_input}
use Rattle.warg_merkle.specs.SparseTree.Nodes.{way_from}
use Rattle.warg_merkle.specs.SparseTree.Compressed.{root_above}
use Rattle.warg_merkle.proofs.SparseTreeLemmas.Open.{root_kept}
use Rattle.warg_merkle.proofs.sparse_tree.node.Leaf.root.Goals as goal

pub returns-then-depth-le48 : goal.returns-then-depth-le48
returns-then-depth-le48 c = c.root_above.ensures ∙ root_kept sha256 c.args.depth c.args.self.now.key (sha256 (leaf_input c.args.self.now.value.items)) c.args.self.now.kept c.if-depth-le48.true c.requires.kept

pub returns-else-depth-le48 : goal.returns-else-depth-le48
returns-else-depth-le48 c = c.root_above-else-depth-le48.ensures ∙ ap (root_above sha256 0 (way_from (256 - c.args.depth) c.args.depth c.args.self.now.key)) (c.leaf_hash-hash.ensures ∙ ap (λ v. sha256 (leaf_input v)) c.as_slice.ensures.value)

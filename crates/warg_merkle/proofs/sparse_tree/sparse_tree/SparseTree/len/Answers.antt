use Rattle.std.proofs.Common.{sym, ◌∙◌, arith}
use Rattle.sha2.specs.Sha256.{sha256}
use Rattle.warg_merkle.specs.SparseTree.SparseTree.{map_of}
use Rattle.warg_merkle.proofs.SparseTreeLemmas.Open.{count}
use Rattle.warg_merkle.proofs.sparse_tree.sparse_tree.SparseTree.len.Goals as goal

pub returns : goal.returns
unfolding map_of
returns c = c.args.self.now.counted ∙ sym (count sha256 c.args.self.now.node 0 (omega arith) c.args.self.now.hashed)

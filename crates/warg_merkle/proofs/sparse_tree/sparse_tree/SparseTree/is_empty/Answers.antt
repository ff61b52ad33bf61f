use Rattle.std.proofs.Common.{◌≡◌, sym, ◌∙◌, arith}
use Rattle.std.proofs.lemmas.Bool.Decides.{Decides-eqb}
use Rattle.sha2.specs.Sha256.{sha256}
use Rattle.warg_merkle.specs.SparseTree.Nodes.{map_count}
use Rattle.warg_merkle.specs.SparseTree.SparseTree.{map_of}
use Rattle.warg_merkle.proofs.SparseTreeLemmas.Open.{count}
use Rattle.warg_merkle.proofs.sparse_tree.sparse_tree.SparseTree.is_empty.Goals as goal

pub returns : goal.returns
unfolding map_of
returns c =
    let same : c.args.self.now.len ≡ map_count 256 (map_of c.args.self.now) = c.args.self.now.counted ∙ sym (count sha256 c.args.self.now.node 0 (omega arith) c.args.self.now.hashed) in
    let decides = Decides-eqb c.args.self.now.len 0 in
    (λ t. sym same ∙ decides.0 t, λ e. decides.1 (same ∙ e))

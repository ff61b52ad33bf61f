use Rattle.std.proofs.Common.{◌-◌, sym, ◌∙◌, ap, arith}
use Rattle.sha2.specs.Sha256.{sha256}
use Rattle.warg_merkle.proofs.Paths.{path_of_one}
use Rattle.warg_merkle.specs.MerkleLog.Logs.{hash_of_nodes}
use Rattle.warg_merkle.proofs.MerkleLogLemmas.Joins.{path_in_left, path_in_right}
use Rattle.warg_merkle.proofs.merkle_log.subtree.Subtree.+path.Goals as goal

pub returns-then-self-eq1 : goal.returns-then-self-eq1
returns-then-self-eq1 t c = c.new.ensures.items ∙ sym (path_of_one (hash_of_nodes sha256) c.args.index c.args.self.now.leaves.now (omega arith))

pub returns-in_ok-push : goal.returns-in_ok-push
returns-in_ok-push t c = c.in_ok-push.ensures.items ∙ path_in_left (hash_of_nodes sha256) c.args.self.now.leaves.now c.split.result.0.leaves.now c.split.result.1.leaves.now c.args.index c.in_ok-path.path.items c.root.result (omega arith) c.split.ensures.left c.split.ensures.right (omega arith) c.in_ok-path.ensures c.root.ensures

pub returns-in_ok-push-2 : goal.returns-in_ok-push-2
returns-in_ok-push-2 t c = c.in_ok-push-2.ensures.items ∙ path_in_right (hash_of_nodes sha256) c.args.self.now.leaves.now c.split.result.0.leaves.now c.split.result.1.leaves.now c.args.index _ c.in_ok-path-2.path.items c.root-else-index-left.result (omega arith) c.split.ensures.left c.split.ensures.right (omega arith) (ap (λ n. c.args.index - n) c.split.ensures.size) c.in_ok-path-2.ensures c.root-else-index-left.ensures

use Rattle.std.proofs.Common.{◌≡◌, ◌*◌, ◌-◌, [], length, get_or, refl, ◌∙◌, ap, arith}
use Rattle.sha2.specs.Sha256.{sha256}
use Rattle.warg_merkle.specs.Trees.{left_size}
use Rattle.warg_merkle.specs.MerkleLog.Logs.{hash_of_nodes}
use Rattle.warg_merkle.proofs.MerkleLogLemmas.Roots.{length_of_whole, root_of_whole}
use Rattle.warg_merkle.proofs.MerkleLogLemmas.Joins.{root_of_none, root_of_one, root_of_parts}
use Rattle.warg_merkle.proofs.merkle_log.subtree.Subtree.+root.Goals as goal

pub bounds-self-self : goal.bounds-self-self
bounds-self-self t c =
    let whole : length c.args.self.now.leaves.now ≡ 2 * left_size (length c.args.self.now.leaves.now) = omega arith in
    let long_own = ap length c.args.self.now.roots_are_own in
    let long = length_of_whole (hash_of_nodes sha256) (left_size (length c.args.self.now.leaves.now)) c.args.self.now.leaves.now (omega arith) refl whole in
    omega arith

pub returns-then-left-right : goal.returns-then-left-right
returns-then-left-right t c =
    ap (λ rs. get_or rs (length c.args.self.now.leaves.now - 2) []) c.args.self.now.roots_are_own
    ∙ root_of_whole (hash_of_nodes sha256) (left_size (length c.args.self.now.leaves.now)) c.args.self.now.leaves.now [] (omega arith) refl (omega arith)

pub returns-in-empty : goal.returns-in-empty
returns-in-empty t c = c.digest.ensures ∙ root_of_none sha256 c.args.self.now.leaves.now (omega arith)

pub returns-in-len1 : goal.returns-in-len1
returns-in-len1 t c = root_of_one sha256 c.args.self.now.leaves.now c.in-len1.len_at_least c.in-len1.len_below

pub returns-else-left-right : goal.returns-else-left-right
returns-else-left-right t c = c.node_hash.ensures ∙ root_of_parts sha256 c.args.self.now.leaves.now c.split.result.0.leaves.now c.split.result.1.leaves.now c.root.result c.root-in_default.result (omega arith) c.split.ensures.left c.split.ensures.right c.root.ensures c.root-in_default.ensures

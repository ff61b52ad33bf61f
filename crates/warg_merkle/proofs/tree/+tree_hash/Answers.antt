use Rattle.std.proofs.Common.{◌∙◌, List, ℕ, arith, Bor}
use Rattle.sha2.specs.Sha256.{sha256}
use Rattle.warg_merkle.proofs.Parts.{of_none, of_first, of_parts}
use Rattle.warg_merkle.proofs.tree.+tree_hash.Goals as goal

pub returns-in-empty : goal.returns-in-empty
returns-in-empty t c = c.digest.ensures ∙ of_none sha256 (λ (leaf : Bor (List ℕ)). leaf.now) c.args.leaves.now (omega arith)

pub returns-in-len1 : goal.returns-in-len1
returns-in-len1 t c = c.leaf_hash.ensures ∙ of_first sha256 (λ (leaf : Bor (List ℕ)). leaf.now) c.args.leaves.now _ c.in-len1.len_at_least c.in-len1.len_below

pub returns-in_default : goal.returns-in_default
returns-in_default t c = c.node_hash.ensures ∙ of_parts sha256 (λ (leaf : Bor (List ℕ)). leaf.now) c.args.leaves.now c.split_at.result.0.now c.split_at.result.1.now c.left_size.result c.tree_hash.result c.tree_hash-in_default.result (omega arith) c.left_size.ensures.value c.split_at.ensures.front c.split_at.ensures.back c.tree_hash.ensures c.tree_hash-in_default.ensures

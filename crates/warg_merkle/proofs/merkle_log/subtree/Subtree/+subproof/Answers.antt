use Rattle.std.proofs.Common.{◌-◌, ◌++◌, [], ◌∷◌, List, ℕ, Vec, Global, sym, ◌∙◌, ap, arith}
use Rattle.sha2.specs.Sha256.{sha256}
use Rattle.warg_merkle.specs.Extensions.{subproof}
use Rattle.warg_merkle.specs.MerkleLog.Logs.{hash_of_nodes}
use Rattle.warg_merkle.proofs.MerkleLogLemmas.Joins.{proof_in_left, proof_in_right, proof_of_known, proof_of_unknown}
use Rattle.warg_merkle.proofs.merkle_log.subtree.Subtree.+subproof.Goals as goal
use Rattle.warg_merkle.proofs.merkle_log.subtree.Subtree.+subproof.Goals.{then-not-known+in_ok-push, else-not-known}

pub returns-then-first-self : goal.returns-then-first-self
returns-then-first-self t c = elim c.if-not-known.branch [
  | then-not-known+in_ok-push w ↦
      ap (λ (v : Vec (List ℕ) Global). v.items) w.path-is ∙ w.in_ok-push.ensures.items
      ∙ ap (λ ps. ps ++ w.root.result ∷ []) c.new-path.ensures.items ∙ ap (λ h. h ∷ []) w.root.ensures
      ∙ proof_of_unknown (hash_of_nodes sha256) c.args.first c.args.self.now.leaves.now c.requires.some c.if-first-self.true
      ∙ ap (subproof (hash_of_nodes sha256) c.args.first c.args.self.now.leaves.now) (sym w.if-not-known.true)
  | else-not-known w ↦
      ap (λ (v : Vec (List ℕ) Global). v.items) w.path-is ∙ c.new-path.ensures.items
      ∙ proof_of_known (hash_of_nodes sha256) c.args.first c.args.self.now.leaves.now c.if-first-self.true
      ∙ ap (subproof (hash_of_nodes sha256) c.args.first c.args.self.now.leaves.now) (sym w.if-not-known.false)
]

pub returns-in_ok-push-2 : goal.returns-in_ok-push-2
returns-in_ok-push-2 t c = c.in_ok-push-2.ensures.items ∙ proof_in_left (hash_of_nodes sha256) c.args.self.now.leaves.now c.split.result.0.leaves.now c.split.result.1.leaves.now c.args.first c.args.known c.in_ok-path.path.items c.root-then-first-left.result (omega arith) c.requires.some (omega arith) c.split.ensures.left c.split.ensures.right (omega arith) c.in_ok-path.ensures c.root-then-first-left.ensures

pub returns-in_ok-push-3 : goal.returns-in_ok-push-3
returns-in_ok-push-3 t c = c.in_ok-push-3.ensures.items ∙ proof_in_right (hash_of_nodes sha256) c.args.self.now.leaves.now c.split.result.0.leaves.now c.split.result.1.leaves.now c.args.first _ c.args.known c.in_ok-path-2.path.items c.root-else-first-left.result (omega arith) (omega arith) c.split.ensures.left c.split.ensures.right (omega arith) (ap (λ n. c.args.first - n) c.split.ensures.size) c.in_ok-path-2.ensures c.root-else-first-left.ensures

use Rattle.std.proofs.Common.{◌-◌, length, take, sym, refl, ◌∙◌, ap, arith}
use Rattle.std.proofs.lemmas.List.{length-take-le}
use Rattle.sha2.specs.Sha256.{sha256}
use Rattle.warg_merkle.specs.Trees.{left_size}
use Rattle.warg_merkle.specs.MerkleLog.Logs.{hash_of_nodes}
use Rattle.warg_merkle.proofs.MerkleLogLemmas.Roots.{of_part, parts_of_whole, length_of_whole}
use Rattle.warg_merkle.proofs.merkle_log.subtree.Subtree.roots_of_parts.Goals as goal

pub slice_bounds-result-length : goal.slice_bounds-result-length
slice_bounds-result-length c =
    let long = length_of_whole (hash_of_nodes sha256) (left_size (length c.args.self.now.leaves.now)) c.args.self.now.leaves.now c.requires refl (omega arith) in
    sym (length-take-le (length c.args.self.now.leaves.now - 2) c.args.self.now.roots.now (omega (arith, ap length c.args.self.now.roots_are_own)))

pub returns-then-size-left_size : goal.returns-then-size-left_size
returns-then-size-left_size c =
    ap (take (length c.args.self.now.leaves.now - 2)) c.args.self.now.roots_are_own
    ∙ parts_of_whole (hash_of_nodes sha256) (left_size (length c.args.self.now.leaves.now)) c.args.self.now.leaves.now c.requires refl (omega arith)

pub returns-else-size-left_size : goal.returns-else-size-left_size
returns-else-size-left_size c =
    c.args.self.now.roots_are_own
    ∙ of_part (hash_of_nodes sha256) (left_size (length c.args.self.now.leaves.now)) c.args.self.now.leaves.now c.requires refl (λ whole. c.if-size-left_size.false (omega arith))

use Rattle.std.proofs.Common.{◌-◌, length, take, drop, sym, refl, ◌∙◌, ap, arith}
use Rattle.std.proofs.lemmas.List.{length-append}
use Rattle.sha2.specs.Sha256.{sha256}
use Rattle.warg_merkle.specs.Trees.{left_size}
use Rattle.warg_merkle.specs.MerkleLog.Logs.{hash_of_nodes, whole_roots}
use Rattle.warg_merkle.proofs.MerkleLogLemmas.Roots.{length_left, roots_of_left, roots_of_right}
use Rattle.warg_merkle.proofs.merkle_log.subtree.Subtree.split.Goals as goal

pub split_at-requires-2 : goal.split_at-requires-2
split_at-requires-2 c =
    let left = length_left (hash_of_nodes sha256) c.left_size-size.result c.args.self.now.leaves.now c.requires (sym c.left_size-size.ensures.value) in
    let both = length-append (whole_roots (hash_of_nodes sha256) (take c.left_size-size.result c.args.self.now.leaves.now)) (whole_roots (hash_of_nodes sha256) (drop c.left_size-size.result c.args.self.now.leaves.now)) in
    rw (c.roots_of_parts.ensures, ← c.left_size-size.ensures.value) (omega arith)

pub invariant_of-left : goal.invariant_of-left
invariant_of-left c = record {
  roots_are_own =
      c.split_at-2.ensures.front ∙ ap (λ n. take (n - 1) c.roots_of_parts.result.now) c.left_size-size.ensures.value
      ∙ roots_of_left (hash_of_nodes sha256) (left_size (length c.args.self.now.leaves.now)) c.args.self.now.leaves.now c.roots_of_parts.result.now c.requires refl c.roots_of_parts.ensures
      ∙ ap (λ n. whole_roots (hash_of_nodes sha256) (take n c.args.self.now.leaves.now)) (sym c.left_size-size.ensures.value) ∙ ap (whole_roots (hash_of_nodes sha256)) (sym c.split_at.ensures.front);
}

pub invariant_of-right : goal.invariant_of-right
invariant_of-right c = record {
  roots_are_own =
      c.split_at-2.ensures.back ∙ ap (λ n. drop (n - 1) c.roots_of_parts.result.now) c.left_size-size.ensures.value
      ∙ roots_of_right (hash_of_nodes sha256) (left_size (length c.args.self.now.leaves.now)) c.args.self.now.leaves.now c.roots_of_parts.result.now c.requires refl c.roots_of_parts.ensures
      ∙ ap (λ n. whole_roots (hash_of_nodes sha256) (drop n c.args.self.now.leaves.now)) (sym c.left_size-size.ensures.value) ∙ ap (whole_roots (hash_of_nodes sha256)) (sym c.split_at.ensures.back);
}

use Rattle.std.proofs.Common.{◌≡◌, ◌+◌, ◌++◌, ◌∷◌, [], sym, ◌∙◌, ap, arith}
use Rattle.sha2.specs.Sha256.{sha256}
use Rattle.warg_merkle.proofs.MapProofLemmas.Steps.{empty_leaf, empty_up}
use Rattle.warg_merkle.specs.SparseTree.Nodes.{empty_roots}
use Rattle.warg_merkle.proofs.SparseTreeLemmas.EmptyRoots.{roots_more, no_roots}
use Rattle.warg_merkle.proofs.sparse_tree.empties.empty_roots.Goals as goal

pub loop-height-init : goal.loop-height-init
loop-height-init c = (omega arith, c.digest-root.ensures ∙ empty_leaf sha256, c.in_ok-roots.ensures.items ∙ sym (no_roots sha256))

pub loop-height-preserved : goal.loop-height-preserved
loop-height-preserved c =
    let (high, root, roots) = c.loop-height.invariant in
    let h = c.loop-height.height in (
      omega arith,
      c.node_hash-root.ensures ∙ empty_up sha256 h (h + 1) c.loop-height.root (omega arith) root,
      c.in_ok-push.ensures.items ∙ ap (λ os. os ++ c.loop-height.root ∷ []) roots ∙ ap (λ r. empty_roots sha256 h ++ r ∷ []) root ∙ sym (roots_more sha256 h (h + 1) (omega arith)),
    )

pub returns : goal.returns
returns c =
    let (high, root, roots) = c.loop-height.invariant in
    let top : c.loop-height.height ≡ 257 = omega arith in
    roots ∙ ap (empty_roots sha256) top

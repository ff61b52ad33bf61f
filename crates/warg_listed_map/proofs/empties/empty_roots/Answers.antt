use Rattle.std.proofs.Common.{◌≡◌, ◌+◌, ◌++◌, ◌∷◌, [], sym, ◌∙◌, ap, arith}
use Rattle.sha2.specs.Sha256.{sha256}
use Rattle.warg_merkle.proofs.MapProofLemmas.Steps.{empty_leaf, empty_up}
use Rattle.warg_merkle.specs.SparseTree.Nodes.{empty_roots}
use Rattle.warg_merkle.proofs.SparseTreeLemmas.EmptyRoots.{roots_more, no_roots}
use Rattle.warg_listed_map.proofs.empties.empty_roots.Goals as goal

pub loop-count-init : goal.loop-count-init
loop-count-init c = (omega arith, c.digest-next.ensures ∙ empty_leaf sha256, c.in_ok-roots.ensures.items ∙ sym (no_roots sha256))

pub loop-count-preserved : goal.loop-count-preserved
loop-count-preserved c =
    let (high, next, roots) = c.loop-count.invariant in
    let h = c.loop-count.count in (
      omega arith,
      c.node_hash-next.ensures ∙ empty_up sha256 h (h + 1) c.loop-count.next (omega arith) next,
      c.in_ok-push.ensures.items ∙ ap (λ os. os ++ c.loop-count.next ∷ []) roots ∙ ap (λ r. empty_roots sha256 h ++ r ∷ []) next ∙ sym (roots_more sha256 h (h + 1) (omega arith)),
    )

pub returns : goal.returns
returns c =
    let (high, next, roots) = c.loop-count.invariant in
    let top : c.loop-count.count ≡ 257 = omega arith in
    roots ∙ ap (empty_roots sha256) top

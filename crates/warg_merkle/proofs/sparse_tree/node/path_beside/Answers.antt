use Rattle.std.proofs.Common.{◌-◌, ◌++◌, ◌∷◌, [], drop, ◌∙◌, ap, append_assoc}
use Rattle.sha2.specs.Sha256.{sha256}
use Rattle.warg_merkle.specs.SparseTree.Nodes.{empty_roots}
use Rattle.warg_merkle.proofs.sparse_tree.node.path_beside.Goals as goal

pub returns : goal.returns
returns c =
    let low = empty_roots sha256 (255 - c.args.at) in
    let high = drop (256 - c.args.at) (empty_roots sha256 (256 - c.args.depth)) in
    c.in_ok-extend_from_slice-2.ensures.items
    ∙ ap (λ ps. ps ++ c.row-2.result.now) (c.in_ok-push.ensures.items ∙ ap (λ ps. ps ++ c.args.root.now ∷ []) (c.in_ok-extend_from_slice.ensures.items ∙ ap (λ ps. ps ++ c.row.result.now) c.in_ok-path.ensures.items ∙ c.row.ensures))
    ∙ ap (λ ps. (low ++ c.args.root.now ∷ []) ++ ps) c.row-2.ensures
    ∙ append_assoc low (c.args.root.now ∷ []) high

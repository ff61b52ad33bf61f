use Rattle.std.proofs.Common.{◌≡◌, ◌+◌, ◌-◌, length, take, drop, sym, ◌∙◌, ap, arith}
use Rattle.std.proofs.lemmas.List.{drop-take}
use Rattle.sha2.specs.Sha256.{sha256}
use Rattle.warg_merkle.proofs.SparseTreeLemmas.EmptyRoots.{length-empty_roots, take-empty_roots}
use Rattle.warg_merkle.proofs.sparse_tree.edges.row.Goals as goal

pub slice_bounds-result-end : goal.slice_bounds-result-end
slice_bounds-result-end c = omega (arith, ap length c.requires.empties, length-empty_roots sha256 257)

pub returns : goal.returns
returns c =
    let low = c.args.low in
    let all : low + (c.args.high - low) ≡ c.args.high = let order = c.requires.order in omega arith in
    sym (drop-take low (c.args.high - low) c.args.empties.now)
    ∙ ap (λ n. drop low (take n c.args.empties.now)) all
    ∙ ap (λ os. drop low (take c.args.high os)) c.requires.empties
    ∙ ap (drop low) (take-empty_roots sha256 c.args.high 257 c.requires.in_tree)

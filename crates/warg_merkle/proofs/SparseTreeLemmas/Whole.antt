-- The root of a tree with nodes only where ways part is that of the whole tree.
use Rattle.std.proofs.Common.{◌≡◌, ℕ, suc, ◌+◌, ◌-◌, List, length, sym, ◌∙◌, ap, arith}
use Rattle.warg_merkle.specs.Trees.{node_input}
use Rattle.warg_merkle.specs.SparseMap.Maps.{map_root}
use Rattle.warg_merkle.specs.SparseTree.Compressed.{Compressed, Nothing, Single, Fork, HasHeight, compressed_root, values_in, alone, forked, root_above}
use Rattle.warg_merkle.proofs.SparseMapLemmas.Owning.{empty}
use Rattle.warg_merkle.proofs.SparseTreeLemmas.Behind.{root_behind, root_forked}

pub whole : (hash : List ℕ → List ℕ) (n : ℕ) (tree : Compressed) → HasHeight n tree → compressed_root hash n tree ≡ map_root hash n (values_in tree)
unfolding HasHeight compressed_root values_in map_root
whole hash n Nothing fits = sym (empty hash n)
whole hash n (Single way value) fits = sym (root_behind hash way n 0 (alone value) (omega arith))
whole hash n (Fork edge left right) fits =
    let h = fits.0 in
    let long : n ≡ length edge + (h + 1) = fits.1.0 in
    let high : n - length edge ≡ suc h = omega arith in
    let low : n - length edge - 1 ≡ h = omega arith in
    let l = values_in left in
    let r = values_in right in
    ap (λ k. root_above hash (n - length edge) edge (hash (node_input (compressed_root hash k left) (compressed_root hash k right)))) low
    ∙ ap (λ x. root_above hash (n - length edge) edge (hash (node_input x (compressed_root hash h right)))) (whole hash h left fits.1.1.0)
    ∙ ap (λ x. root_above hash (n - length edge) edge (hash (node_input (map_root hash h l) x))) (whole hash h right fits.1.1.1)
    ∙ ap (root_above hash (n - length edge) edge) (sym (root_forked hash l r (n - length edge) h high))
    ∙ sym (root_behind hash edge n (n - length edge) (forked l r) (omega arith))

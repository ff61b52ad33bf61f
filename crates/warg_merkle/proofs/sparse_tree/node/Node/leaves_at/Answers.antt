use Rattle.std.proofs.Common.{ℕ, Option, Some, None, ap, arith}
use Rattle.std.specs.Prelude.{MatchOption}
use Rattle.sha2.specs.Sha256.{sha256}
use Rattle.warg_merkle.specs.SparseTree.Stored.{AreAlike, PartAt, LeavesAt, Follows}
use Rattle.warg_merkle.proofs.SparseTreeLemmas.Open.{inside, no_edge, along_leaf, along_branch, parts_leaf, parts_branch}
use Rattle.warg_merkle.proofs.sparse_tree.node.Node.leaves_at.Goals as goal

match_more : (A B : Type 0) (P Q : ℕ → Type 0) (r : Option ℕ) → (A → B) → ((n : ℕ) → P n → Q n) → MatchOption r A P → MatchOption r B Q
match_more A B P Q None none some m = none m
match_more A B P Q (Some n) none some m = some n m

pub parting-requires-in-Branch : goal.parting-requires-in-Branch
parting-requires-in-Branch c = omega (arith, inside sha256 c.args.self.now c.args.depth c.in-Branch.branch c.in-Branch.is c.requires.hashed, ap (λ v. v.depth) c.deref-in-Branch-2.ensures)

pub returns-in-Empty : goal.returns-in-Empty
returns-in-Empty c = no_edge c.args.self.now c.args.depth c.args.key.now c.in-Empty.is

pub returns-in-Leaf : goal.returns-in-Leaf
returns-in-Leaf c =
    let node = c.args.self.now in
    let d = c.args.depth in
    let key = c.args.key.now in
    let leaf = c.in-Leaf.leaf in
    match_more (AreAlike d 256 key leaf.value.key) (Follows d key node) (λ at. PartAt d 256 key leaf.value.key at) (λ at. LeavesAt d key node at) c.parting.result (λ alike. along_leaf node d key leaf c.in-Leaf.is alike) (λ at part. parts_leaf node d key at leaf c.in-Leaf.is part) (rw c.deref.ensures at c.parting.ensures)

pub returns-in-Branch : goal.returns-in-Branch
returns-in-Branch c =
    let node = c.args.self.now in
    let d = c.args.depth in
    let key = c.args.key.now in
    let b = c.in-Branch.branch in
    match_more (AreAlike d b.value.depth key b.value.key) (Follows d key node) (λ at. PartAt d b.value.depth key b.value.key at) (λ at. LeavesAt d key node at) c.parting-in-Branch.result (λ alike. along_branch node d key b c.in-Branch.is alike) (λ at part. parts_branch node d key at b c.in-Branch.is part) (rw (c.deref-in-Branch.ensures, c.deref-in-Branch-2.ensures) at c.parting-in-Branch.ensures)

use Rattle.std.proofs.Common.{◌≡◌, ◌∙◌, ◌+◌, if◌then◌else◌, true, is_some, sym, ap, subst, Some, option_map}
use Rattle.warg_merkle.specs.SparseMap.Maps.{way_down}
use Rattle.warg_merkle.specs.SparseTree.SparseTree.{map_of}
use Rattle.warg_merkle.specs.SparseTree.Nodes.{map_count}
use Rattle.warg_registry.specs.PrefixEncodings.{map_leaf_encoding_of}
use Rattle.warg_transparency.specs.MapLeaves.{IsLeafEncoding, leaf_read}
use Rattle.warg_transparency.specs.MapTree.{way_of}
use Rattle.warg_transparency.proofs.MapLeafLemmas.{still_leaves, some_leaf}
use Rattle.warg_transparency.proofs.map_tree.MapTree.insert.Goals as goal

pub invariant_of-self : goal.invariant_of-self
invariant_of-self c = record { leaves = still_leaves (map_of c.args.self.now.tree) (map_of c.insert.new.self) c.insert.result _ _ c.insert.ensures.ok c.insert.ensures.err (subst IsLeafEncoding (sym c.in_ok-bytes.ensures.items) c.map_leaf_bytes.ensures.reads_back) c.args.self.now.leaves }

pub returns-in-Some-clause-count : goal.returns-in-Some-clause-count
returns-in-Some-clause-count c =
    let there : Some c.in-Some.old.items ≡ map_of c.args.self.now.tree (way_of c.args.log_id.now) = sym (ap (option_map (λ v. v.items)) c.in-Some.is) ∙ c.in_ok-old.ensures.old ∙ ap (λ k. map_of c.args.self.now.tree (way_down k)) c.key_of-key.ensures in
    let reads : option_map map_leaf_encoding_of c.leaf_read.result ≡ Some c.in-Some.old.items = ap (option_map map_leaf_encoding_of) (c.leaf_read.ensures ∙ ap leaf_read c.as_slice.ensures.value) ∙ c.args.self.now.leaves (way_of c.args.log_id.now) c.in-Some.old.items (sym there) in
    let found : is_some c.leaf_read.result ≡ true = some_leaf c.leaf_read.result c.in-Some.old.items reads in
    c.in_ok-old.ensures.count ∙ ap (λ b. map_count 256 (map_of c.args.self.now.tree) + (if b then 0 else 1)) (ap is_some c.in-Some.is ∙ sym found)

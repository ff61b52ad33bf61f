use Rattle.std.proofs.Common.{◌≡◌, ◌∙◌, sym, ap, Some}
use Rattle.std.specs.Option.{option_map}
use Rattle.warg_merkle.specs.SparseMap.Maps.{way_down}
use Rattle.warg_merkle.specs.SparseTree.SparseTree.{map_of}
use Rattle.warg_registry.specs.PrefixEncodings.{map_leaf_encoding_of}
use Rattle.warg_transparency.specs.MapTree.{way_of}
use Rattle.warg_transparency.proofs.map_tree.MapTree.get.Goals as goal

pub returns-in-Some : goal.returns-in-Some
returns-in-Some c =
    let there : Some c.in-Some.bytes.now ≡ map_of c.args.self.now.tree (way_of c.args.log_id.now) = c.in-Some.ensures ∙ ap (λ k. map_of c.args.self.now.tree (way_down k)) c.key_of-key.ensures in
    ap (option_map map_leaf_encoding_of) c.leaf_read.ensures ∙ c.args.self.now.leaves (way_of c.args.log_id.now) c.in-Some.bytes.now (sym there) ∙ there

pub returns-in-None : goal.returns-in-None
returns-in-None c = c.in-None.ensures ∙ ap (λ k. map_of c.args.self.now.tree (way_down k)) c.key_of-key.ensures

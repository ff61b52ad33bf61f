use Rattle.std.proofs.Common.{subst}
use Rattle.warg_registry.specs.PrefixEncodings.{IsHash}
use Rattle.warg_transparency.specs.MapTree.{leaves_of}
use Rattle.warg_transparency.proofs.RegistryLemmas.{head_found, none_found}
use Rattle.warg_transparency.proofs.registry_trees.RegistryTrees.head.Goals as goal

pub returns-in-None : goal.returns-in-None
returns-in-None c =
    let is : IsHash c.args.log_id.now.hash = subst IsHash c.from.ensures c.hash_range.ensures in
    rw (← c.self.view_is) (none_found c.self.inside.leaves.items (leaves_of c.self.inside.map) c.args.log_id.now c.self.invariant.hashes is c.self.invariant.is_map c.in-None.ensures)

pub returns-in-Some : goal.returns-in-Some
returns-in-Some c =
    let is : IsHash c.args.log_id.now.hash = subst IsHash c.from.ensures c.hash_range.ensures in
    let found_is : IsHash c.in-Some.leaf.record_id.hash = subst IsHash c.from-in-Some.ensures c.hash_range-in-Some.ensures in
    rw (← c.self.view_is) (head_found c.self.inside.leaves.items (leaves_of c.self.inside.map) c.args.log_id.now c.self.invariant.hashes is c.self.invariant.is_map c.in-Some.leaf found_is c.in-Some.ensures)

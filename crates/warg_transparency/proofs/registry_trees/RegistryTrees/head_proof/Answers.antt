use Rattle.std.proofs.Common.{subst}
use Rattle.warg_registry.specs.PrefixEncodings.{IsHash}
use Rattle.warg_transparency.specs.MapTree.{leaves_of}
use Rattle.warg_transparency.proofs.RegistryLemmas.{proves_head_if}
use Rattle.warg_transparency.proofs.registry_trees.RegistryTrees.head_proof.Goals as goal

pub returns : goal.returns
returns c =
    let is : IsHash c.args.log_id.now.hash = subst IsHash c.from.ensures c.hash_range.ensures in
    rw (← c.self.view_is) (proves_head_if c.self.inside.leaves.items (leaves_of c.self.inside.map) c.args.log_id.now c.self.invariant.hashes is c.self.invariant.is_map c.proof.result c.proof.ensures.path c.proof.ensures.verifies)

use Rattle.std.proofs.Common.{◌∙◌, sym}
use Rattle.warg_transparency.proofs.SavedLeavesLemmas.{one_saved}
use Rattle.warg_transparency.proofs.registry_trees.RegistryTrees.from_bytes.Goals as goal

pub returns-clause-reads_back : goal.returns-clause-reads_back
returns-clause-reads_back c = λ leaves is.
    let read = c.in_ok-leaves.ensures in
    c.in_ok-of_leaves.ensures ∙ one_saved c.in_ok-leaves.leaves.items leaves read.hashes is.hashes (sym read.is_form ∙ is.is_form)

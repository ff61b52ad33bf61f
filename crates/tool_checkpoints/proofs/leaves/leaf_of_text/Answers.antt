use Rattle.std.proofs.Common.{rules, ◌∙◌}
use Rattle.tool_checkpoints.proofs.RegistryLemmas.{text_cut}
use Rattle.tool_checkpoints.proofs.leaves.leaf_of_text.Goals as goal

pub returns : goal.returns
returns c =
    c.leaf_of_ids.ensures ∙ text_cut c.args.text.now c.in-Some.log_id.now c.in-Some.record_id.now (search rules) (search rules) (search rules)

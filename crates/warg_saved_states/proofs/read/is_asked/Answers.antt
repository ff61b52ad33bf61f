use Rattle.std.proofs.Common.{◌∙◌}
use Rattle.warg_saved_states.proofs.AskedMembers.{any_texts}
use Rattle.warg_saved_states.proofs.read.is_asked.Goals as goal

pub returns : goal.returns
returns c = c.contains.ensures.value ∙ any_texts c.args.name.now c.args.asked.now

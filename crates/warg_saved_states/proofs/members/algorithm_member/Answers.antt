use Rattle.warg_saved_states.proofs.Optional.{gives_itself}
use Rattle.warg_saved_states.proofs.members.algorithm_member.Goals as goal

pub returns : goal.returns
returns c = gives_itself c.optional_member.result _ c.optional_member.ensures

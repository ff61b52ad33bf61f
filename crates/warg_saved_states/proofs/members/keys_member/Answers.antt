use Rattle.warg_saved_states.proofs.Optional.{gives_entries}
use Rattle.warg_saved_states.proofs.members.keys_member.Goals as goal

pub returns : goal.returns
returns c = gives_entries (λ m. m.entries) c.map_member.result _ c.map_member.ensures

use Rattle.warg_log.proofs.SavedHead.{gives_itself}
use Rattle.warg_log.proofs.head.member.head_member.Goals as goal

pub returns : goal.returns
returns c = gives_itself c.optional_member.result _ c.optional_member.ensures

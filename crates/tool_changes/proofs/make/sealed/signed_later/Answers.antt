use Rattle.tool_changes.proofs.MakeLemmas.SealedLemmas.{signed_again}
use Rattle.tool_changes.proofs.make.sealed.signed_later.Goals as goal

pub returns : goal.returns
returns c = signed_again

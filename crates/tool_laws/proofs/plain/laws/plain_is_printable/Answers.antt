use Rattle.tool_laws.proofs.PlainLemmas.PlainLemmas.{plain_shown}
use Rattle.tool_laws.proofs.plain.laws.plain_is_printable.Goals as goal

pub returns : goal.returns
returns c = plain_shown

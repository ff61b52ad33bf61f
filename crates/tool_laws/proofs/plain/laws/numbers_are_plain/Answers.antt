use Rattle.tool_laws.proofs.PlainLemmas.WordLemmas.{decimal_plain}
use Rattle.tool_laws.proofs.plain.laws.numbers_are_plain.Goals as goal

pub returns : goal.returns
returns c = decimal_plain

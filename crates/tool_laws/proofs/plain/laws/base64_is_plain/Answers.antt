use Rattle.tool_laws.proofs.PlainLemmas.WordLemmas.{base64_plain}
use Rattle.tool_laws.proofs.plain.laws.base64_is_plain.Goals as goal

pub returns : goal.returns
returns c = base64_plain

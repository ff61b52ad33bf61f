use Rattle.tool_laws.proofs.PlainLemmas.VersionLemmas.{version_plain}
use Rattle.tool_laws.proofs.plain.laws.versions_are_plain.Goals as goal

pub returns : goal.returns
returns c = version_plain

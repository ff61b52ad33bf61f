use Rattle.warg_registry.proofs.PrefixCode.{prefix_code}
use Rattle.warg_registry.proofs.laws.no_encoding_begins_another.Goals as goal

pub returns : goal.returns
returns c = prefix_code

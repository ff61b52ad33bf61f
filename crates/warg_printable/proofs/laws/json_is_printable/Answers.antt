use Rattle.warg_printable.proofs.JsonLemmas.{json_shown}
use Rattle.warg_printable.proofs.laws.json_is_printable.Goals as goal

pub returns : goal.returns
returns c = json_shown

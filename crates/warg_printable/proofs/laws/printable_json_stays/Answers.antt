use Rattle.warg_printable.proofs.JsonLemmas.{json_same}
use Rattle.warg_printable.proofs.laws.printable_json_stays.Goals as goal

pub returns : goal.returns
returns c = json_same

use Rattle.warg_printable.proofs.ShownLemmas.{escaped_same}
use Rattle.warg_printable.proofs.laws.stays.Goals as goal

pub returns : goal.returns
returns c = escaped_same

use Rattle.warg_printable.proofs.ShownLemmas.{escaped_shown}
use Rattle.warg_printable.proofs.laws.is_printable.Goals as goal

pub returns : goal.returns
returns c = escaped_shown

use Rattle.warg_printable.proofs.ShownLemmas.{shown_byte}
use Rattle.warg_printable.proofs.laws.has_no_control_byte.Goals as goal

pub returns : goal.returns
returns c = shown_byte

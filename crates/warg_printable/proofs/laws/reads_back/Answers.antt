use Rattle.warg_printable.proofs.BackLemmas.{unprintable-escaped}
use Rattle.warg_printable.proofs.laws.reads_back.Goals as goal

pub returns : goal.returns
returns c = unprintable-escaped

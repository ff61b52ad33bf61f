use Rattle.warg_printable.proofs.ShownLemmas.{word_no_blank}
use Rattle.warg_printable.proofs.laws.word_has_no_space.Goals as goal

pub returns : goal.returns
returns c = word_no_blank

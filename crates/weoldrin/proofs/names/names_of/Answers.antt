use Rattle.weoldrin.proofs.NameLemmas.{unsaid_end}
use Rattle.weoldrin.proofs.names.names_of.Goals as goal

pub returns-in-Err-clause-err : goal.returns-in-Err-clause-err
returns-in-Err-clause-err c =
    unsaid_end c.args.text.now c.in-Err.error c.name_error.result c.in-Err.ensures.err c.name_error.ensures.memory c.name_error.ensures.unusable

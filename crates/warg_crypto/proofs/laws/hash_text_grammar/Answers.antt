use Rattle.warg_crypto.proofs.Grammars.{hash_of-IsHashText}
use Rattle.warg_crypto.proofs.laws.hash_text_grammar.Goals as goal

pub returns : goal.returns
returns c = hash_of-IsHashText

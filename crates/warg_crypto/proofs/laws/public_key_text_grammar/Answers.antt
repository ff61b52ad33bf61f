use Rattle.warg_crypto.proofs.Grammars.{public_key_of-IsKeyText}
use Rattle.warg_crypto.proofs.laws.public_key_text_grammar.Goals as goal

pub returns : goal.returns
returns c = public_key_of-IsKeyText

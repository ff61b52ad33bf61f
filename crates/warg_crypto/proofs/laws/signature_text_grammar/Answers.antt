use Rattle.warg_crypto.proofs.Grammars.{signature_of-IsKeyText}
use Rattle.warg_crypto.proofs.laws.signature_text_grammar.Goals as goal

pub returns : goal.returns
returns c = signature_of-IsKeyText

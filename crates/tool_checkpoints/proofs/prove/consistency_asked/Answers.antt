use Rattle.std.proofs.Common.{refl}
use Rattle.tool_checkpoints.specs.ProofTexts.{AsksConsistency}
use Rattle.tool_checkpoints.specs.Words.{IsNumber}
use Rattle.tool_checkpoints.proofs.WordLemmas.{unsaid_to}
use Rattle.tool_checkpoints.proofs.prove.consistency_asked.Goals as goal

pub returns-in-Ok-clause-ok : goal.returns-in-Ok-clause-ok
returns-in-Ok-clause-ok c = (c.in-Ok.first, refl, c.in-Ok.ensures.ok)

pub returns-in-Err-clause-err : goal.returns-in-Err-clause-err
returns-in-Err-clause-err c =
    unsaid_to (IsNumber c.args.word.now) (AsksConsistency c.args.word.now) c.in-Err.error c.in-Err.ensures.err (λ it asks. (asks.0, asks.2))

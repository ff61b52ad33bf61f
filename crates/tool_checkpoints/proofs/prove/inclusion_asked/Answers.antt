use Rattle.std.proofs.Common.{refl}
use Rattle.tool_checkpoints.specs.ProofTexts.{AsksInclusion}
use Rattle.tool_checkpoints.specs.Words.{IsNumber}
use Rattle.tool_checkpoints.proofs.WordLemmas.{unsaid_to}
use Rattle.tool_checkpoints.proofs.prove.inclusion_asked.Goals as goal

pub returns-in-Ok-clause-ok : goal.returns-in-Ok-clause-ok
returns-in-Ok-clause-ok c = (c.in-Ok.index, refl, c.in-Ok.ensures.ok)

pub returns-in-Err-clause-err : goal.returns-in-Err-clause-err
returns-in-Err-clause-err c =
    unsaid_to (IsNumber c.args.word.now) (AsksInclusion c.args.word.now) c.in-Err.error c.in-Err.ensures.err (λ it asks. (asks.0, asks.2))

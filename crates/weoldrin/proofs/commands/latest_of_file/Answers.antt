use Rattle.tool_changes.specs.Latest.{IsRequirement}
use Rattle.tool_checkpoints.proofs.WordLemmas.{words_said, words_unsaid}
use Rattle.weoldrin.proofs.RequestLemmas.{no_requirement}
use Rattle.weoldrin.proofs.commands.latest_of_file.Goals as goal

pub returns-in-Ok-clause-answered : goal.returns-in-Ok-clause-answered
returns-in-Ok-clause-answered g c =
    words_said (IsRequirement c.args.requirement.now) _ c.in-Ok.wanted.comparators.items c.latest_in_file.result c.in-Ok.ensures.ok
    c.latest_in_file.ensures.answered

pub returns-in-Err-clause-answered : goal.returns-in-Err-clause-answered
returns-in-Err-clause-answered g c =
    words_unsaid (IsRequirement c.args.requirement.now) _ c.in-Err.error (no_requirement c.args.requirement.now c.in-Err.error c.in-Err.ensures.err)

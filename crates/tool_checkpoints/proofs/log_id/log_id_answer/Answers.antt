use Rattle.std.proofs.Common.{◌∙◌, ℕ, List, ap}
use Rattle.warg_audit.specs.Files.Texts.{line, yes}
use Rattle.tool_checkpoints.specs.Words.{by_value}
use Rattle.tool_checkpoints.proofs.WordLemmas.{words_unsaid}
use Rattle.tool_checkpoints.proofs.log_id.log_id_answer.Goals as goal

pub returns-in_ok-id_answer-in-Ok : goal.returns-in_ok-id_answer-in-Ok
returns-in_ok-id_answer-in-Ok c =
    let it = c.in-Ok.ensures.ok in
    by_value it.0 it.1 (c.in_ok-id_answer-in-Ok.ensures ∙ ap (λ (text : List ℕ). yes (line text)) it.2)

pub returns-in-Err : goal.returns-in-Err
returns-in-Err c = words_unsaid _ _ c.in-Err.error c.in-Err.ensures.err

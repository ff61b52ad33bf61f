use Rattle.std.proofs.Common.{◌≡◌, ◌∙◌, subst}
use Rattle.hex.specs.Hex.{IsBytes}
use Rattle.warg_audit.proofs.FilesLemmas.AnswerLemmas.{on_ok}
use Rattle.tool_checkpoints.specs.CheckpointAnswers.{checkpoint_message}
use Rattle.tool_checkpoints.proofs.checkpoint.message_line.Goals as goal

pub returns-clause-are_bytes : goal.returns-clause-are_bytes
returns-clause-are_bytes c =
    let same : c.as_slice.result.now ≡ checkpoint_message c.args.checkpoint.now = c.as_slice.ensures.value ∙ c.in_ok-message.ensures in
    on_ok c.hex_line.result (subst (λ xs. IsBytes xs) same c.hex_line.ensures.are_bytes)

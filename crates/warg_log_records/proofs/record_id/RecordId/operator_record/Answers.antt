use Rattle.std.proofs.Common.{ℕ, List, ap, ◌∙◌}
use Rattle.warg_log_records.specs.RecordHashes.{operator_record_message}
use Rattle.warg_log_records.specs.RecordIds.{id_by}
use Rattle.warg_log_records.proofs.record_id.RecordId.operator_record.Goals as goal

pub returns : goal.returns
returns g c =
    c.of_operator_content.ensures
    ∙ ap (λ (content : List ℕ). id_by g.D.SupportedDigest.ALGORITHM g.D.SupportedDigest.digest_of (operator_record_message content)) c.content_bytes.ensures

use Rattle.std.proofs.Common.{ap, ◌∙◌, refl, ℕ, List}
use Rattle.warg_protobuf.specs.Envelope.{borrowed_envelope}
use Rattle.warg_audit.specs.Answers.{is_read, has_fault}
use Rattle.std.proofs.lemmas.Result.{IfOk-weaker}
use Rattle.warg_audit.proofs.identify.envelope_reply.Goals as goal

pub returns-in_ok-format-in-Ok : goal.returns-in_ok-format-in-Ok
returns-in_ok-format-in-Ok c =
    is_read (borrowed_envelope c.in-Ok.envelope) c.in-Ok.ensures.found
    (c.owned.ensures ∙ ap (λ (t : List ℕ). record { text = t; status = 0 }) (c.in_ok-format-in-Ok.ensures.ok ∙ rw c.record_id-id.ensures refl))

pub returns-in-Err : goal.returns-in-Err
returns-in-Err c =
    IfOk-weaker c.fault_reply.result _ _ (λ reply. has_fault c.in-Err.fault c.in-Err.ensures.fault) c.fault_reply.ensures

-- What is asked of the JSON of a signed checkpoint is enough for it, and what is printed of the message.
use Rattle.std.specs.Prelude.{◌≡◌, ◌⊎◌, ◌^◌, ℕ, List, codes, Some, None, Ok, Err, IsUtf8, refl}
use Rattle.std.proofs.Common.{inl, inr, sym, ◌∙◌}
use Rattle.hex.specs.Hex.{IsBytes, encode_lower}
use Rattle.serde_json.specs.Data.{Data}
use Rattle.serde_json.specs.Read.{read}
use Rattle.warg_crypto.specs.Json.JsonTexts.{hash_in, key_id_in, signature_in}
use Rattle.warg_crypto.specs.Json.Numbers.{number_in}
use Rattle.warg_crypto.specs.declared.json.error.JsonError.{JsonError}
use Rattle.warg_envelope.specs.EnvelopeJson.{signed_in}
use Rattle.warg_registry.specs.RegistryJson.{checkpoint_in, timestamped_checkpoint_in}
use Rattle.warg_registry.specs.declared.checkpoint.TimestampedCheckpoint.{TimestampedCheckpoint}
use Rattle.warg_audit.specs.Files.Answers.{IfOutput, IsUnusable}
use Rattle.warg_audit.specs.Files.OutputData.{OutputData}
use Rattle.warg_audit.specs.Files.Texts.{line, yes}
use Rattle.warg_audit.specs.declared.files.command_error.CommandError.{CommandError}
use Rattle.warg_saved_states.specs.Asked.{IsAskedOfText}
use Rattle.warg_saved_states.specs.Next.{AsksFor}
use Rattle.warg_saved_states.proofs.AskedLaws.{number_asked, read_member_asked, then_same}
use Rattle.tool_checkpoints.specs.CheckpointAnswers.{IsMessageLine, IsSigned, Signed, Tells, checkpoint_message, signed_members, signed_view}
use Rattle.tool_checkpoints.specs.Words.{IsUnsaid}
use Rattle.tool_checkpoints.proofs.WordLemmas.{unsaid_for}

hash_asked : AsksFor signed_members 0 hash_in
hash_asked d v like = rw like.text refl

checkpoint_asked : AsksFor signed_members 1 checkpoint_in
checkpoint_asked d v like =
    read_member_asked signed_members 0 (codes "logRoot") d v hash_in _ _ refl hash_asked like (λ log_root.
    read_member_asked signed_members 0 (codes "logLength") d v number_in _ _ refl (number_asked signed_members 0 (2 ^ 64)) like (λ log_length.
    read_member_asked signed_members 0 (codes "mapRoot") d v hash_in _ _ refl hash_asked like (λ map_root. refl)))

timestamped_asked : AsksFor signed_members 1 timestamped_checkpoint_in
timestamped_asked d v like =
    then_same (checkpoint_in v) (checkpoint_in d) _ _ (checkpoint_asked d v like) (λ checkpoint.
    read_member_asked signed_members 0 (codes "timestamp") d v number_in _ _ refl (number_asked signed_members 0 (2 ^ 64)) like (λ timestamp. refl))

key_id_asked : AsksFor signed_members 1 key_id_in
key_id_asked d v like = rw like.text refl

signature_asked : AsksFor signed_members 1 signature_in
signature_asked d v like = rw like.text refl

signed_asked : AsksFor signed_members 2 (signed_in timestamped_checkpoint_in)
signed_asked d v like =
    read_member_asked signed_members 1 (codes "contents") d v timestamped_checkpoint_in _ _ refl timestamped_asked like (λ contents.
    read_member_asked signed_members 1 (codes "keyId") d v key_id_in _ _ refl key_id_asked like (λ key_id.
    read_member_asked signed_members 1 (codes "signature") d v signature_in _ _ refl signature_asked like (λ signature. refl)))

module _ (bytes : List ℕ) (v : Data) (is : IsAskedOfText signed_members 2 bytes v) where
  -- what is asked says a signed checkpoint where the whole does
  pub said_by_asked : (it : Signed) → Tells v it → Tells is.whole it
  said_by_asked it said = sym (signed_asked is.whole v is.asked) ∙ said

  pub asked_said : (it : Signed) → IsSigned bytes it → (value : Signed) × Tells v value
  asked_said it h =
      let e : Some h.value ≡ Some is.whole = sym h.json ∙ is.is in
      let same : h.value ≡ is.whole = cc in
      (it, signed_asked is.whole v is.asked ∙ (rw same at h.said))

no_json : (bytes : List ℕ) → (IsUtf8 bytes → read bytes ≡ None) → (it : Signed) → IsSigned bytes it → ⊥
no_json bytes never it h =
    let both : None ≡ Some h.value = sym (never h.utf8) ∙ h.json in cc

-- bytes that are no JSON say no signed checkpoint
pub unsaid_json : (bytes : List ℕ) (end : CommandError) → IfOutput (λ printed. (IsUtf8 bytes → read bytes ≡ None) × IsUnusable printed) end
    → IfOutput (IsUnsaid (IsSigned bytes)) end
unsaid_json bytes end h = unsaid_for (IsSigned bytes) (IsUtf8 bytes → read bytes ≡ None) end h (no_json bytes)

-- JSON that is refused says none
pub no_signed : (d : Data) (memory : Type 0) (fault : JsonError) → (memory ⊎ (signed_in timestamped_checkpoint_in d ≡ Err fault))
    → memory ⊎ ((it : Signed) → Tells d it → ⊥)
no_signed d memory fault (inl it) = inl it
no_signed d memory fault (inr e) = inr (λ it said. let both : Err fault ≡ Ok (signed_view it) = sym e ∙ said in cc)

-- ---- the message

pub message_told : (c : TimestampedCheckpoint) (printed : OutputData) → printed ≡ yes (line (encode_lower (checkpoint_message c)))
    → IsBytes (checkpoint_message c) → IsMessageLine c printed
message_told c printed is are_bytes = record { is = is; are_bytes = are_bytes }

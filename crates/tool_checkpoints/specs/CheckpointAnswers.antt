-- What is answered of a checkpoint: the message that is signed of it, and whether a key signed it that the operators let sign.
use Rattle.std.specs.Prelude.{◌≡◌, ℕ, Bool, true, ◌||◌, if◌then◌else◌, List, [], ◌∷◌, codes, Option, Some, None, Ok, IsUtf8}
use Rattle.std.specs.Str.{bytes_eq}
use Rattle.hex.specs.Hex.{IsBytes, encode_lower}
use Rattle.serde_json.specs.Data.{Data}
use Rattle.serde_json.specs.Read.{read}
use Rattle.warg_crypto.specs.NamedBytes.{NamedBytes}
use Rattle.warg_crypto.specs.Signed.{signed_message}
use Rattle.warg_envelope.specs.EnvelopeJson.{SignedContents, signed_in}
use Rattle.warg_envelope.specs.declared.serde_envelope.SerdeEnvelope.{SerdeEnvelope}
use Rattle.warg_permissions.specs.declared.operator.Permission.TheVariants.{Commit}
use Rattle.warg_registry.specs.PrefixEncodings.{timestamped_checkpoint_encoding_of}
use Rattle.warg_registry.specs.RegistryJson.{timestamped_checkpoint_in}
use Rattle.warg_registry.specs.declared.checkpoint.TimestampedCheckpoint.{TimestampedCheckpoint}
use Rattle.warg_protocol.specs.Logs.{SignatureRelation}
use Rattle.warg_protocol.specs.Operator.{View}
use Rattle.warg_audit.specs.Files.Files.{Files}
use Rattle.warg_audit.specs.Files.OutputData.{OutputData}
use Rattle.warg_audit.specs.Files.Texts.{line, no, yes}
use Rattle.warg_audit.specs.Files.Unusable.{IsOfLines}
use Rattle.warg_audit.specs.LogKinds.{operator_log}
use Rattle.tool_answers.specs.Verdicts.{IsPrintedOf, envelopes_of}
use Rattle.tool_checkpoints.specs.Proofs.{IsCheckpoint}
use Rattle.tool_checkpoints.specs.Words.{IsByFile, IsByWords, IsNumber}
use Rattle.tool_words.specs.declared.checkpoint.CheckpointQuery.{CheckpointQuery}
use Rattle.tool_words.specs.declared.checkpoint.CheckpointQuery.TheVariants as query
use Rattle.tool_words.specs.declared.checkpoint.Schemes.{Schemes}
use Rattle.tool_words.specs.declared.checkpoint.Schemes.TheVariants as schemes

-- the message that is signed of a checkpoint
abbrev pub checkpoint_message : TimestampedCheckpoint → List ℕ
checkpoint_message c = signed_message (codes "WARG-CHECKPOINT-SIGNATURE-V0") (timestamped_checkpoint_encoding_of c)

-- that message on a line, in hex digits; its numbers are bytes
pub record IsMessageLine (c : TimestampedCheckpoint) (printed : OutputData) : Type 0 where
  pub is : printed ≡ yes (line (encode_lower (checkpoint_message c)))
  pub are_bytes : IsBytes (checkpoint_message c)

-- ---- signed checkpoints

-- a checkpoint at a time, under a signature
abbrev pub Signed : Type 0
Signed = SerdeEnvelope TimestampedCheckpoint

-- what is read of its JSON
abbrev pub signed_view : Signed → SignedContents TimestampedCheckpoint
signed_view it = record { contents = it.contents; key_id = it.key_id; signature = it.signature }

-- the members of its JSON
abbrev pub signed_members : List (List ℕ)
signed_members =
    codes "contents" ∷ codes "logRoot" ∷ codes "logLength" ∷ codes "mapRoot" ∷ codes "timestamp" ∷ codes "keyId" ∷ codes "signature" ∷ []

-- the JSON says the signed checkpoint
abbrev pub Tells : Data → Signed → Type 0
Tells d it = signed_in timestamped_checkpoint_in d ≡ Ok (signed_view it)

-- the signed checkpoint whose JSON bytes are, which are a text
pub record IsSigned (bytes : List ℕ) (it : Signed) : Type 0 where
  pub utf8 : IsUtf8 bytes
  pub value : Data
  pub json : read bytes ≡ Some value
  pub said : Tells value it

-- ---- whether it is signed

-- whether signatures under a key are taken whose scheme has this name
abbrev pub takes : Schemes → List ℕ → Bool
takes schemes.Any name = true
takes schemes.WithToy name = bytes_eq name (codes "toy") || bytes_eq name (codes "ecdsa-p256")
takes schemes.Known name = bytes_eq name (codes "ecdsa-p256")

module _ (schemes : Schemes) (belongs : SignatureRelation) where
  -- what is printed of the signature, under the key that may sign
  abbrev pub key_text : NamedBytes → Signed → OutputData
  key_text key it =
      if takes schemes key.name
      then (if belongs key (checkpoint_message it.contents) it.signature then yes (codes "holds\n") else no (codes "does not belong\n"))
      else no (codes "other scheme\n")

  -- the same where there may be no such key
  abbrev pub found_text : Option NamedBytes → Signed → OutputData
  found_text None it = no (codes "may not sign\n")
  found_text (Some key) it = key_text key it

  -- what is printed of the signature, by what the operators' log says: the key of the id has to hold `commit`
  abbrev pub signature_text : View → Signed → OutputData
  signature_text log it =
      if log.state.authority.holds it.key_id Commit then found_text (log.state.authority.key it.key_id) it else no (codes "may not sign\n")

  -- the same of the inputs of an operators' log
  abbrev pub IsSignatureOf : Signed → List (List ℕ) → OutputData → Type 0
  IsSignatureOf it inputs printed = printed ≡ signature_text (operator_log.kind.view_of (envelopes_of operator_log inputs)) it

-- ---- answers, by words and files, in the order in which they are read

module _ (files : Option Files) where
  abbrev pub IsMessageAnswer : List ℕ → List ℕ → OutputData → Type 0
  IsMessageAnswer checkpoint_path time printed =
      IsByWords (IsNumber time) (λ timestamp.
      IsByFile files checkpoint_path IsCheckpoint (λ checkpoint.
      IsMessageLine (record { checkpoint = checkpoint; timestamp = timestamp }))) printed

  module _ (belongs : SignatureRelation) where
    abbrev pub IsSignatureAnswer : List ℕ → List ℕ → Schemes → OutputData → Type 0
    IsSignatureAnswer checkpoint_path log_path schemes printed =
        IsByFile files checkpoint_path IsSigned (λ it.
        IsOfLines files log_path (IsPrintedOf operator_log belongs (IsSignatureOf schemes belongs it))) printed

    -- what is answered to what is asked of a checkpoint
    abbrev pub IsCheckpointAnswer : CheckpointQuery → OutputData → Type 0
    IsCheckpointAnswer (query.Message checkpoint time) printed = IsMessageAnswer checkpoint.now time.now printed
    IsCheckpointAnswer (query.Signature checkpoint log schemes) printed = IsSignatureAnswer checkpoint.now log.now schemes printed

-- What is answered of a checkpoint: what is signed of it, and whether it is signed.
use Rattle.std.proofs.Common.{ℕ, Bool, true, false, List, codes, Option, Some, None, refl}
use Rattle.std.specs.Prelude.{if◌then◌else◌}
use Rattle.hex.specs.Hex.{encode_lower}
use Rattle.warg_crypto.specs.NamedBytes.{NamedBytes}
use Rattle.warg_permissions.specs.declared.operator.Permission.TheVariants.{Commit}
use Rattle.warg_protocol.specs.Logs.{SignatureRelation}
use Rattle.warg_registry.specs.declared.checkpoint.TimestampedCheckpoint.{TimestampedCheckpoint}
use Rattle.warg_audit.specs.Files.Files.{Files}
use Rattle.warg_audit.specs.Files.OutputData.{OutputData}
use Rattle.warg_audit.specs.Files.Texts.{line, no, yes}
use Rattle.warg_audit.specs.LogKinds.{operator_log}
use Rattle.warg_printable.specs.Lines.{IsPrintedText}
use Rattle.tool_answers.specs.Verdicts.{IsPrintedOf, envelopes_of}
use Rattle.tool_checkpoints.specs.CheckpointAnswers.{IsCheckpointAnswer, IsMessageLine, IsSignatureOf, Signed, checkpoint_message, found_text, signature_text, takes}
use Rattle.tool_words.specs.declared.checkpoint.CheckpointQuery.{CheckpointQuery}
use Rattle.tool_words.specs.declared.checkpoint.CheckpointQuery.TheVariants as query
use Rattle.tool_words.specs.declared.checkpoint.Schemes.{Schemes}
use Rattle.tool_laws.proofs.FileLemmas.{by_file_clean, lines_clean, words_clean}
use Rattle.tool_laws.proofs.KindLemmas.{operator_plain}
use Rattle.tool_laws.proofs.LineLemmas.{IsClean, clean_line, clean_same, line_text, plain_line}
use Rattle.tool_laws.proofs.LogLemmas.{lawful_clean}
use Rattle.tool_laws.proofs.PlainLemmas.ByteLemmas.{bytes_from}
use Rattle.tool_laws.proofs.PlainLemmas.WordLemmas.{hex_plain}

-- the message that is signed of a checkpoint
message_clean : (c : TimestampedCheckpoint) (printed : OutputData) → IsMessageLine c printed → IsClean printed
message_clean c printed h =
    let message = checkpoint_message c in
    clean_line printed (yes (line (encode_lower message))) h.is (plain_line (encode_lower message) (hex_plain message (bytes_from message h.are_bytes)))

-- ---- whether it is signed

belonging : (it : Bool) → IsPrintedText (if it then yes (codes "holds\n") else no (codes "does not belong\n")).text
belonging true = line_text (codes "holds\n") (plain_line (codes "holds") refl)
belonging false = line_text (codes "does not belong\n") (plain_line (codes "does not belong") refl)

taken : (is_taken belongs : Bool)
    → IsPrintedText (if is_taken then (if belongs then yes (codes "holds\n") else no (codes "does not belong\n")) else no (codes "other scheme\n")).text
taken true belongs = belonging belongs
taken false belongs = line_text (codes "other scheme\n") (plain_line (codes "other scheme") refl)

none_signs : IsPrintedText (no (codes "may not sign\n")).text
none_signs = line_text (codes "may not sign\n") (plain_line (codes "may not sign") refl)

module _ (schemes : Schemes) (belongs : SignatureRelation) (it : Signed) where
  found_clean : (key : Option NamedBytes) → IsPrintedText (found_text schemes belongs key it).text
  found_clean None = none_signs
  found_clean (Some key) = taken (takes schemes key.name) (belongs key (checkpoint_message it.contents) it.signature)

  signing : (may : Bool) (key : Option NamedBytes) → IsPrintedText (if may then found_text schemes belongs key it else no (codes "may not sign\n")).text
  signing true key = found_clean key
  signing false key = none_signs

  signature_clean : (inputs : List (List ℕ)) (printed : OutputData) → IsSignatureOf schemes belongs it inputs printed → IsClean printed
  signature_clean inputs printed h =
      let log = operator_log.kind.view_of (envelopes_of operator_log inputs) in
      clean_same printed (signature_text schemes belongs log it) h
      (signing (log.state.authority.holds it.key_id Commit) (log.state.authority.key it.key_id))

-- what is asked of a checkpoint
pub checkpoint_clean : (belongs : SignatureRelation) (files : Option Files) (it : CheckpointQuery) (printed : OutputData)
    → IsCheckpointAnswer files belongs it printed → IsClean printed
checkpoint_clean belongs files (query.Message checkpoint time) printed h =
    words_clean printed h (λ timestamp said by_time.
    by_file_clean files checkpoint.now printed by_time (λ view. message_clean (record { checkpoint = view; timestamp = timestamp }) printed))
checkpoint_clean belongs files (query.Signature checkpoint log schemes) printed h =
    by_file_clean files checkpoint.now printed h (λ it by_lines.
    lines_clean files log.now (IsPrintedOf operator_log belongs (IsSignatureOf schemes belongs it))
    (lawful_clean operator_log operator_plain belongs (IsSignatureOf schemes belongs it) (signature_clean schemes belongs it)) printed by_lines)

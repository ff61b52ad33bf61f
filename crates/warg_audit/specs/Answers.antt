-- What the program answers to its words and the bytes of its input.
use Rattle.std.specs.Prelude.{◌≡◌, ℕ, ◌<◌, ◌≤◌, nat_lt, if◌then◌else◌, List, [], ◌∷◌, length, Option, Some, None, Result, Ok, Err, IsErr}
use Rattle.hex.specs.declared.error.FromHexError.{FromHexError}
use Rattle.warg_protobuf.specs.Envelope.{envelope_table, EnvelopeValue, IsEnvelope, envelope_of}
use Rattle.warg_protobuf.specs.Table.{HasFault}
use Rattle.warg_protobuf.specs.declared.error.WireError.{WireError}
use Rattle.warg_envelope.specs.FaultNames.{error_name}
use Rattle.warg_log_records.specs.RecordIds.{package_record_id_of, operator_record_id_of}
use Rattle.warg_log_records.specs.declared.record_id.RecordId.{RecordId}
use Rattle.warg_envelope.specs.declared.proto_envelope.error.ParseEnvelopeError.TheVariants.{ProtobufEnvelope}
use Rattle.warg_audit.specs.declared.log_kind.LogKind.{LogKind}
use Rattle.warg_audit.specs.declared.log_kind.LogKind.TheVariants.{Package, Operator}
use Rattle.warg_audit.specs.declared.command.Command.{Command}
use Rattle.warg_audit.specs.declared.command.Command.TheVariants.{Id, Audit}
use Rattle.warg_audit.specs.Commands.{command_of}
use Rattle.warg_audit.specs.LogKinds.{IsLogKindAnswer, log_kind_answer}
use Rattle.warg_audit.specs.Files.Lines.{AreLines, input_of, lines_of}
use Rattle.warg_audit.specs.Printouts.{OutputData, usage, too_long, bad_line, record_id, refused_line}

-- the id of a record of a log of this type, from its content bytes
abbrev pub record_id_of : LogKind → List ℕ → RecordId
record_id_of Package content = package_record_id_of content
record_id_of Operator content = operator_record_id_of content

-- the answer to an envelope's bytes whose record's id is asked: its contents and its signature are not looked into
pub data IsEnvelopeAnswer (log_kind : LogKind) (bytes : List ℕ) (printed : OutputData) : Type 0 where
  is_read : (envelope : EnvelopeValue) → IsEnvelope bytes envelope
      → printed ≡ record_id (record_id_of log_kind envelope.contents) → IsEnvelopeAnswer log_kind bytes printed
  has_fault : (fault : WireError) → HasFault envelope_table bytes fault
      → printed ≡ refused_line 0 (error_name (ProtobufEnvelope fault)) → IsEnvelopeAnswer log_kind bytes printed

-- the answer to lines, of which one is wanted
pub data IsIdAnswer (log_kind : LogKind) (lines : List (List ℕ)) (printed : OutputData) : Type 0 where
  no_line : lines ≡ [] → printed ≡ bad_line 0 → IsIdAnswer log_kind lines printed
  bad_digits : (line : List ℕ) (more : List (List ℕ)) → lines ≡ line ∷ more → IsErr (input_of line)
      → printed ≡ bad_line 0 → IsIdAnswer log_kind lines printed
  second_line : (line bytes next : List ℕ) (more : List (List ℕ)) → lines ≡ line ∷ next ∷ more
      → input_of line ≡ Ok bytes
      → printed ≡ bad_line 1 → IsIdAnswer log_kind lines printed
  one_line : (line bytes : List ℕ) → lines ≡ line ∷ [] → input_of line ≡ Ok bytes
      → IsEnvelopeAnswer log_kind bytes printed → IsIdAnswer log_kind lines printed

-- the answer to lines by what is asked of them: the id of one record, or the verdict on a log
abbrev pub IsCommandAnswer : Command → List (List ℕ) → OutputData → Type 0
IsCommandAnswer (Id log_kind) lines printed = IsIdAnswer log_kind lines printed
IsCommandAnswer (Audit log_kind) lines printed = IsLogKindAnswer log_kind lines printed

-- the answer to words and bytes
pub data IsAnswer (words : List (List ℕ)) (bytes : List ℕ) (printed : OutputData) : Type 0 where
  other_words : command_of words ≡ None → printed ≡ usage → IsAnswer words bytes printed
  over_limit : (command : Command) → command_of words ≡ Some command → 16_777_216 < length bytes
      → printed ≡ too_long → IsAnswer words bytes printed
  of_lines : (command : Command) (lines : List (List ℕ)) → command_of words ≡ Some command → length bytes ≤ 16_777_216
      → AreLines bytes lines → IsCommandAnswer command lines printed → IsAnswer words bytes printed

-- ---- the same, computed: the only answer (`laws`)

-- the answer to an envelope as read: its record's id, or why its bytes are refused
abbrev pub envelope_answer : LogKind → Result EnvelopeValue WireError → OutputData
envelope_answer log_kind (Ok envelope) = record_id (record_id_of log_kind envelope.contents)
envelope_answer log_kind (Err fault) = refused_line 0 (error_name (ProtobufEnvelope fault))

-- by what the first line spells, and the lines behind it
abbrev pub input_answer : LogKind → Result (List ℕ) FromHexError → List (List ℕ) → OutputData
input_answer log_kind (Err fault) more = bad_line 0
input_answer log_kind (Ok bytes) [] = envelope_answer log_kind (envelope_of bytes)
input_answer log_kind (Ok bytes) (next ∷ more) = bad_line 1

-- the answer to lines of which one is wanted, whose record's id is asked
abbrev pub id_answer : LogKind → List (List ℕ) → OutputData
id_answer log_kind [] = bad_line 0
id_answer log_kind (line ∷ more) = input_answer log_kind (input_of line) more

-- the answer to lines by what is asked of them: one record's id, or the verdict on a log
abbrev pub command_answer : Command → List (List ℕ) → OutputData
command_answer (Id log_kind) lines = id_answer log_kind lines
command_answer (Audit log_kind) lines = log_kind_answer log_kind lines

-- by what the words ask for
abbrev pub asked_answer : Option Command → List ℕ → OutputData
asked_answer None bytes = usage
asked_answer (Some command) bytes = if nat_lt 16_777_216 (length bytes) then too_long else command_answer command (lines_of bytes)

-- the answer of the program to its words and to the bytes of its input
abbrev pub answer_of : List (List ℕ) → List ℕ → OutputData
answer_of words bytes = asked_answer (command_of words) bytes

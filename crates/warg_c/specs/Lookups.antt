-- What is looked up in a log: its head, its records.
use Rattle.std.specs.Prelude.{◌≡◌, ℕ, List, ◌++◌, length, Option, Some, None, IsSome}
use Rattle.std.specs.List.{slice_get}
use Rattle.std.specs.Option.{option_map}
use Rattle.warg_replay.specs.AuditedLog.Log.{StateAndRecords}
use Rattle.warg_crypto.specs.HashText.{hash_text}
use Rattle.warg_envelope.specs.EnvelopeData.{EnvelopeData, DecodedEnvelope}
use Rattle.warg_envelope.specs.Envelopes.{envelope_message}
use Rattle.warg_operator_log.specs.State as operators
use Rattle.warg_operator_log.specs.StateLaws as operator_laws
use Rattle.warg_package_log.specs.State as packages
use Rattle.warg_package_log.specs.StateLaws as package_laws
use Rattle.warg_protobuf.specs.Envelope.{envelope_bytes}
use Rattle.warg_log_records.specs.declared.record_id.RecordId.{RecordId}
use Rattle.warg_log_records.specs.Kinds.{Kind}
use Rattle.warg_log.specs.declared.head.Head.{Head}
use Rattle.warg_c.specs.declared.exports.records.KeptLengths.{KeptLengths}
use Rattle.warg_c.specs.declared.exports.records.ShownHead.{ShownHead}
use Rattle.warg_c.specs.declared.any_log.AnyLog.{AnyLog}
use Rattle.warg_c.specs.declared.any_log.AnyLog.TheVariants.{Package, Operator}
use Rattle.warg_c.specs.Logs.{count_in, state_of, whole_of}

-- the text of an id
abbrev pub IdText : Option RecordId → List ℕ → Type 0
IdText id text = Some text ≡ option_map (λ i. hash_text i.hash) id

-- the id of the last record
abbrev pub head_of : AnyLog → Option RecordId
head_of (Package log) = package_laws.kind.head (packages.view_of (state_of log))
head_of (Operator log) = operator_laws.kind.head (operators.view_of (state_of log))

module _ {S C : Type 0} where
  -- how many records are here
  abbrev pub LengthIs : Option (StateAndRecords S C) → ℕ → Type 0
  LengthIs None n = ⊥
  LengthIs (Some log) n = n ≡ length log.records

  -- no record is at the place
  abbrev pub IsBeyond : Option (StateAndRecords S C) → ℕ → Type 0
  IsBeyond None place = ⊥
  IsBeyond (Some log) place = slice_get log.records place ≡ None

module _ {View Offence : Type 0} (k : Kind View Offence) where
  -- the bytes of an envelope and the text of its record's id, one behind the other, and their lengths
  pub record IsRecord (e : EnvelopeData) (n : KeptLengths) (bytes : List ℕ) : Type 0 where
    pub id : List ℕ
    pub id_is : id ≡ hash_text (k.id e.content).hash
    pub bytes_are : bytes ≡ envelope_bytes (envelope_message e) ++ id
    pub envelope_len : n.envelope_len ≡ length (envelope_bytes (envelope_message e))
    pub id_len : n.id_len ≡ length id

  module _ {S C : Type 0} where
    -- those of the record at the place
    abbrev pub IsRecordAt : Option (StateAndRecords S C) → ℕ → KeptLengths → List ℕ → Type 0
    IsRecordAt None place n bytes = ⊥
    IsRecordAt (Some log) place n bytes = (e : DecodedEnvelope C) × (slice_get log.records place ≡ Some e) × IsRecord e.envelope n bytes

-- how many records there are, where that is known
abbrev pub count_of : AnyLog → Option ℕ
count_of (Package log) = count_in log
count_of (Operator log) = count_in log

-- the last record: its id, its time, its version
abbrev pub last_of : AnyLog → Option Head
last_of (Package log) = (packages.view_of (state_of log)).head
last_of (Operator log) = (operators.view_of (state_of log)).head

-- the time and the version of a record, and a count, where there is one
abbrev pub shown_last : Head → Option ℕ → ShownHead
shown_last head (Some count) = record { seconds = head.timestamp.seconds; count = count; nanos = head.timestamp.nanos; version = head.version; is_counted = 1 }
shown_last head None = record { seconds = head.timestamp.seconds; count = 0; nanos = head.timestamp.nanos; version = head.version; is_counted = 0 }

-- those of the log are told
abbrev pub ShowsLast : AnyLog → ShownHead → Type 0
ShowsLast held shown = (head : Head) × (last_of held ≡ Some head) × (shown ≡ shown_last head (count_of held))

abbrev pub length_tells : AnyLog → ℕ → Type 0
length_tells (Package log) n = LengthIs (whole_of log) n
length_tells (Operator log) n = LengthIs (whole_of log) n

-- the log was resumed, and its records are elsewhere
abbrev pub has_no_records : AnyLog → Type 0
has_no_records (Package log) = whole_of log ≡ None
has_no_records (Operator log) = whole_of log ≡ None

-- the log has records
abbrev pub record_takes : AnyLog → Type 0
record_takes (Package log) = IsSome (whole_of log)
record_takes (Operator log) = IsSome (whole_of log)

abbrev pub record_tells : AnyLog → ℕ → KeptLengths → List ℕ → Type 0
record_tells (Package log) place n bytes = IsRecordAt package_laws.kind (whole_of log) place n bytes
record_tells (Operator log) place n bytes = IsRecordAt operator_laws.kind (whole_of log) place n bytes

abbrev pub record_lacks : AnyLog → ℕ → Type 0
record_lacks (Package log) place = IsBeyond (whole_of log) place
record_lacks (Operator log) place = IsBeyond (whole_of log) place

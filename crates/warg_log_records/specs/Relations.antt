-- What content bytes are, by the message that they are: the relation beside the computed reading.
use Rattle.std.specs.Prelude.{◌≡◌, ℕ, List, Result, Ok, Err}
use Rattle.warg_protobuf.specs.Record.{RecordValue}
use Rattle.warg_protobuf.specs.Table.{Table, HasFault}
use Rattle.warg_protobuf.specs.declared.error.WireError.{WireError}
use Rattle.warg_envelope.specs.Faults.{RecordFault, Wire}
use Rattle.warg_log_records.specs.RecordData.{EntryData, RecordData}
use Rattle.warg_log_records.specs.RecordReading.{record_of, wire_fault_of}

module _ {E P O : Type 0} (table : Table) (IsMessage : List ℕ → RecordValue (List E) → Type 0) (entry_of : E → Result (EntryData P O) RecordFault) where
  -- the bytes are a message that says this record
  pub record IsRecord (content : List ℕ) (s : RecordData P O) : Type 0 where
    pub message : RecordValue (List E)
    pub is : IsMessage content message
    pub says : record_of entry_of message ≡ Ok s

  -- the first fault: the bytes', or else that of what their message says
  pub data HasRecordFault (content : List ℕ) : RecordFault → Type 0 where
    of_message : {e : WireError} → HasFault table content e → HasRecordFault content (Wire (wire_fault_of e))
    of_record : {m : RecordValue (List E)} {f : RecordFault} → IsMessage content m → record_of entry_of m ≡ Err f
        → HasRecordFault content f

  -- what is computed of the bytes is the record that they are, or their first fault
  pub record ReadsRecord (read : Result (RecordData P O) RecordFault) (content : List ℕ) : Type 0 where
    pub value : (s : RecordData P O) → read ≡ Ok s → IsRecord content s
    pub value_converse : (s : RecordData P O) → IsRecord content s → read ≡ Ok s
    pub fault : (f : RecordFault) → read ≡ Err f → HasRecordFault content f
    pub fault_converse : (f : RecordFault) → HasRecordFault content f → read ≡ Err f

-- The computed reading of records is what bytes are.
use Rattle.std.proofs.Common.{◌≡◌, ℕ, List, Result, Ok, Err, refl, sym, ap, subst, ◌∙◌}
use Rattle.warg_protobuf.specs.Meaning.{Computes}
use Rattle.warg_protobuf.specs.Record.{RecordValue}
use Rattle.warg_protobuf.specs.Table.{Table}
use Rattle.warg_protobuf.specs.declared.error.WireError.{WireError}
use Rattle.warg_envelope.specs.Faults.{RecordFault, Wire}
use Rattle.warg_envelope.proofs.EnvelopeReading.{ok_err, err_same}
use Rattle.warg_log_records.specs.RecordData.{EntryData, RecordData}
use Rattle.warg_log_records.specs.Relations.{IsRecord, HasRecordFault, of_message, of_record, ReadsRecord}
use Rattle.warg_log_records.specs.RecordReading.{◌>>=◌, message_of, record_of, wire_fault_of}

module _ {E P O : Type 0} (table : Table) (IsMessage : List ℕ → RecordValue (List E) → Type 0) (entry_of : E → Result (EntryData P O) RecordFault) (messages : List ℕ → Result (RecordValue (List E)) WireError) (computes : (b : List ℕ) → Computes table messages IsMessage b) (content : List ℕ) where
  record_at : Result (RecordValue (List E)) WireError → Result (RecordData P O) RecordFault
  record_at m = message_of m >>= record_of entry_of

  value_at : (m : Result (RecordValue (List E)) WireError) → messages content ≡ m → (s : RecordData P O) → (message_of m >>= record_of entry_of) ≡ Ok s → IsRecord table IsMessage entry_of content s
  value_at (Ok v) e s h = record { message = v; is = (computes content).value v e; says = h }
  value_at (Err w) e s h = ok_err s (Wire (wire_fault_of w)) (sym h)

  fault_at : (m : Result (RecordValue (List E)) WireError) → messages content ≡ m → (f : RecordFault) → (message_of m >>= record_of entry_of) ≡ Err f → HasRecordFault table IsMessage entry_of content f
  fault_at (Ok v) e f h = of_record ((computes content).value v e) h
  fault_at (Err w) e f h = subst (HasRecordFault table IsMessage entry_of content) (err_same {Y = RecordData P O} (Wire (wire_fault_of w)) f h) (of_message ((computes content).fault w e))

  again_at : (f : RecordFault) → HasRecordFault table IsMessage entry_of content f → (message_of (messages content) >>= record_of entry_of) ≡ Err f
  again_at f (of_message {e = w} h) = ap (λ (m : Result (RecordValue (List E)) WireError). message_of m >>= record_of entry_of) ((computes content).fault_converse w h)
  again_at f (of_record {m = v} is says) = ap (λ (m : Result (RecordValue (List E)) WireError). message_of m >>= record_of entry_of) ((computes content).value_converse v is) ∙ says

  pub reads_record : ReadsRecord table IsMessage entry_of (message_of (messages content) >>= record_of entry_of) content
  reads_record = record {
    value = λ s h. value_at (messages content) refl s h;
    value_converse = λ s r. ap (λ (m : Result (RecordValue (List E)) WireError). message_of m >>= record_of entry_of) ((computes content).value_converse r.message r.is) ∙ r.says;
    fault = λ f h. fault_at (messages content) refl f h;
    fault_converse = again_at;
  }

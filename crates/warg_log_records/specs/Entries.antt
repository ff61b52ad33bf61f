-- Entries that are made of their messages one by one. No public clause names any of this.
use Rattle.std.specs.Prelude.{List, [], ◌∷◌, ◌++◌, map, Option, Some, None, Result, Ok, Err}
use Rattle.warg_crypto.specs.declared.coding.WireFault.TheVariants as wire
use Rattle.warg_protobuf.specs.Record.{RecordValue}
use Rattle.warg_envelope.specs.Faults.{RecordFault, Wire, fault_of}
use Rattle.warg_log_records.specs.RecordData.{EntryData, RecordData}
use Rattle.warg_log_records.specs.RecordReading.{◌>>=◌, prev_of, time_of}
use Rattle.warg_log_records.specs.declared.entries.Entries.{Entries}
use Rattle.warg_log_records.specs.declared.kept_fault.KeptFault.{KeptFault}

-- the fault that an error names, as one of records; out of memory is never kept as one
abbrev pub fault_or_memory : Option RecordFault → RecordFault
fault_or_memory (Some f) = f
fault_or_memory None = Wire wire.OutOfMemory

-- the entries, unless a fault was met: then that
abbrev pub unless_error : {A : Type 0} → A → Option KeptFault → Result A RecordFault
unless_error xs None = Ok xs
unless_error xs (Some kept) = Err (fault_or_memory (fault_of kept.error))

-- the entries so far, or the first fault
abbrev pub entries_held : {T P : Type 0} → (T → P) → Entries T → Result (List P) RecordFault
entries_held plain s = unless_error (map plain s.entries.items) s.fault

-- the same once one more message was read
abbrev pub next_entry : {A B F : Type 0} → (A → Result B F) → Result (List B) F → A → Result (List B) F
next_entry read so_far m = so_far >>= λ xs. read m >>= λ x. Ok (xs ++ x ∷ [])

-- a record of such entries: its prev, its time, then its entries
abbrev pub record_in : {P O : Type 0} → RecordValue (Result (List (EntryData P O)) RecordFault)
    → Result (RecordData P O) RecordFault
record_in m = do
  prev ← prev_of m.prev
  time ← time_of m.time
  entries ← m.entries
  Ok (record { prev = prev; version = m.version; time = time; entries = entries })

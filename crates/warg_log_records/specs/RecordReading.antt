-- What both kinds of record share in reading: each step gives its value or its fault, and the first fault is the
-- record's.
use Rattle.std.specs.Prelude.{ℕ, ℤ, List, [], ◌∷◌, Option, Some, None, Result, Ok, Err}
use Rattle.warg_crypto.specs.HashText.{hash_of, algorithm_of}
use Rattle.warg_crypto.specs.Keys.{public_key_of}
use Rattle.warg_crypto.specs.NamedBytes.{NamedBytes}
use Rattle.warg_crypto.specs.Time.Times.{Time, time_from}
use Rattle.warg_crypto.specs.declared.hash.HashAlgorithm.{HashAlgorithm}
use Rattle.warg_crypto.specs.declared.coding.WireFault.{WireFault}
use Rattle.warg_crypto.specs.declared.coding.WireFault.TheVariants as wire
use Rattle.warg_crypto.specs.declared.coding.DecodeError.{DecodeError}
use Rattle.warg_crypto.specs.declared.coding.DecodeError.TheVariants as decoding
use Rattle.warg_protobuf.specs.declared.error.WireError.{WireError}
use Rattle.warg_protobuf.specs.declared.error.WireError.TheVariants as error
use Rattle.warg_protobuf.specs.Entry.{Member}
use Rattle.warg_protobuf.specs.Entry as member
use Rattle.warg_protobuf.specs.GrantFlat.{GrantFlatValue}
use Rattle.warg_protobuf.specs.Init.{InitValue}
use Rattle.warg_protobuf.specs.Record.{RecordValue}
use Rattle.warg_protobuf.specs.RevokeFlat.{RevokeFlatValue}
use Rattle.warg_protobuf.specs.Timestamp.{TimestampValue}
use Rattle.warg_envelope.specs.Faults.{RecordFault, Wire, Prev, MissingTime, TimeOutOfRange, EmptyEntry, Algorithm, Key, Permission}
use Rattle.warg_log_records.specs.RecordData.{SharedEntry, Init, GrantFlat, RevokeFlat, EntryData, Shared, Own, RecordData}
use Rattle.warg_log_records.specs.declared.record_id.RecordId.{RecordId}

infixl 10 ◌>>=◌
-- the first step's value is handed on, its fault ends the reading
abbrev pub ◌>>=◌ : {A B F : Type 0} → Result A F → (A → Result B F) → Result B F
(Ok x) >>= f = f x
(Err e) >>= f = Err e

-- a part's value, or its fault by another name
abbrev pub map_fault : {A E F : Type 0} → (E → F) → Result A E → Result A F
map_fault name (Ok x) = Ok x
map_fault name (Err e) = Err (name e)

-- the values of all, in order, or the first fault
abbrev pub each : {A B F : Type 0} → (A → Result B F) → List A → Result (List B) F
each f [] = Ok []
each f (x ∷ xs) = f x >>= λ y. each f xs >>= λ ys. Ok (y ∷ ys)

-- the id of the record before
abbrev pub prev_of : Option (List ℕ) → Result (Option RecordId) RecordFault
prev_of None = Ok None
prev_of (Some text) = map_fault Prev (hash_of text) >>= λ h. Ok (Some (record { hash = h }))

-- the time, which must be there; nanoseconds are carried into the seconds
abbrev pub time_of : Option TimestampValue → Result Time RecordFault
time_of None = Err MissingTime
time_of (Some t) = map_fault (λ e. TimeOutOfRange) (time_from t.seconds t.nanos)

-- the hash algorithm that a text names, or that it names none
abbrev pub hash_algorithm_of : List ℕ → Result HashAlgorithm RecordFault
hash_algorithm_of text = map_fault (λ e. Algorithm) (algorithm_of text)

-- the key that a text spells, or its fault
abbrev pub key_of : List ℕ → Result NamedBytes RecordFault
key_of text = map_fault Key (public_key_of text)

-- the algorithm and the key that begin a log
abbrev pub beginning_of : InitValue → Result (HashAlgorithm × NamedBytes) RecordFault
beginning_of m = do
  algorithm ← hash_algorithm_of m.hash_algorithm
  key ← key_of m.key
  Ok (algorithm, key)

-- what the message of an init says: the entry that begins a log
abbrev pub init_of : {P : Type 0} → InitValue → Result (SharedEntry P) RecordFault
init_of m = beginning_of m >>= λ b. Ok (Init b.0 b.1)

module _ {P : Type 0} (permission_of : ℤ → Option P) where
  -- the permission of a number; a number of no permission is a fault
  abbrev pub known_permission : ℤ → Option P → Result P RecordFault
  known_permission v (Some p) = Ok p
  known_permission v None = Err (Permission v)

  -- the permission that a message's number names, or the fault of the number
  abbrev pub permission_in : ℤ → Result P RecordFault
  permission_in v = known_permission v (permission_of v)

  -- what the message of a grant says: its key, then its permissions in order
  abbrev pub grant_of : GrantFlatValue → Result (SharedEntry P) RecordFault
  grant_of m = do
    key ← key_of m.key
    permissions ← each permission_in m.permissions
    Ok (GrantFlat key permissions)

  -- what the message of a revocation says: its permissions in order; any text is a key id
  abbrev pub revoke_of : RevokeFlatValue → Result (SharedEntry P) RecordFault
  revoke_of m = do
    permissions ← each permission_in m.permissions
    Ok (RevokeFlat m.key_id permissions)

-- the entry that was read, as one that both kinds have
abbrev pub shared_entry : {P O : Type 0} → Result (SharedEntry P) RecordFault → Result (EntryData P O) RecordFault
shared_entry read = read >>= λ a. Ok (Shared a)

-- the entry that was read, as one that the kind alone has
abbrev pub own_entry : {P O : Type 0} → Result O RecordFault → Result (EntryData P O) RecordFault
own_entry read = read >>= λ o. Ok (Own o)

module _ {P O F G : Type 0} (permission_of : ℤ → Option P) (first_of : F → Result O RecordFault) (second_of : G → Result O RecordFault) where
  -- what an entry's message says, by what the messages of the kind's own entries say
  abbrev pub entry_in : Option (Member F G) → Result (EntryData P O) RecordFault
  entry_in None = Err EmptyEntry
  entry_in (Some (member.Init m)) = shared_entry (init_of m)
  entry_in (Some (member.GrantFlat m)) = shared_entry (grant_of permission_of m)
  entry_in (Some (member.RevokeFlat m)) = shared_entry (revoke_of permission_of m)
  entry_in (Some (member.FirstOwn m)) = own_entry (first_of m)
  entry_in (Some (member.SecondOwn m)) = own_entry (second_of m)

-- a record: its prev, its time, then its entries in order
abbrev pub record_of : {E P O : Type 0} → (E → Result (EntryData P O) RecordFault) → RecordValue (List E)
    → Result (RecordData P O) RecordFault
record_of entry_of m = do
  prev ← prev_of m.prev
  time ← time_of m.time
  entries ← each entry_of m.entries
  Ok (record { prev = prev; version = m.version; time = time; entries = entries })

-- the fault of bytes that are no message
abbrev pub wire_fault_of : WireError → WireFault
wire_fault_of error.Truncated = wire.Truncated
wire_fault_of error.VarintTooLong = wire.VarintTooLong
wire_fault_of error.BadKey = wire.BadKey
wire_fault_of error.Group = wire.Group
wire_fault_of error.WrongWireType = wire.WrongWireType
wire_fault_of error.NotUtf8 = wire.NotUtf8
wire_fault_of error.OutOfMemory = wire.OutOfMemory

-- the message that bytes are, or its fault as the record's
abbrev pub message_of : {V : Type 0} → Result V WireError → Result V RecordFault
message_of read = map_fault (λ e. Wire (wire_fault_of e)) read

-- the record that bytes say whose message is read so, or their first fault
abbrev pub decoded_record : {E P O : Type 0} → (E → Result (EntryData P O) RecordFault)
    → Result (RecordValue (List E)) WireError
    → Result (RecordData P O) RecordFault
decoded_record entry_of read = message_of read >>= record_of entry_of

-- the error of bytes that are no message; out of memory stays out of memory
abbrev pub wire_error_of : WireError → DecodeError
wire_error_of error.OutOfMemory = decoding.OutOfMemory
wire_error_of e = decoding.Wire (wire_fault_of e)

-- What both kinds of record share in writing: records as messages.
use Rattle.std.specs.Prelude.{ℕ, ℤ, pos, List, map, Option, Some, codes}
use Rattle.std.specs.Option.{option_map}
use Rattle.warg_crypto.specs.HashText.{hash_text}
use Rattle.warg_crypto.specs.NamedBytes.{NamedBytes, named_bytes_text}
use Rattle.warg_crypto.specs.Time.Times.{Time}
use Rattle.warg_crypto.specs.declared.hash.HashAlgorithm.{HashAlgorithm}
use Rattle.warg_crypto.specs.declared.hash.HashAlgorithm.TheVariants.{Sha256}
use Rattle.warg_protobuf.specs.Entry.{Member}
use Rattle.warg_protobuf.specs.Entry as member
use Rattle.warg_protobuf.specs.GrantFlat.{GrantFlatValue}
use Rattle.warg_protobuf.specs.Init.{InitValue}
use Rattle.warg_protobuf.specs.Record.{RecordValue}
use Rattle.warg_protobuf.specs.RevokeFlat.{RevokeFlatValue}
use Rattle.warg_protobuf.specs.Timestamp.{TimestampValue}
use Rattle.warg_log_records.specs.RecordData.{Init, GrantFlat, RevokeFlat, EntryData, Shared, Own, RecordData}
use Rattle.warg_log_records.specs.declared.record_id.RecordId.{RecordId}

-- the text of an id
abbrev pub id_text : RecordId → List ℕ
id_text id = hash_text id.hash

-- the name of a hash algorithm
abbrev pub algorithm_text : HashAlgorithm → List ℕ
algorithm_text Sha256 = codes "sha256"

-- the message of an init
abbrev pub init_message : HashAlgorithm → NamedBytes → InitValue
init_message algorithm key = record { key = named_bytes_text key; hash_algorithm = algorithm_text algorithm }

module _ {P : Type 0} (number_of : P → ℤ) where
  -- the message of a grant to a key
  abbrev pub grant_message : NamedBytes → List P → GrantFlatValue
  grant_message key permissions = record { key = named_bytes_text key; permissions = map number_of permissions }

  -- the message of a revocation from a key id
  abbrev pub revoke_message : List ℕ → List P → RevokeFlatValue
  revoke_message key_id permissions = record { key_id = key_id; permissions = map number_of permissions }

-- the message of an entry, by the messages of its kind's own
abbrev pub message_of_entry : {P O F G : Type 0} → (P → ℤ) → (O → Member F G) → EntryData P O → Option (Member F G)
message_of_entry number_of own_message (Shared (Init algorithm key)) = Some (member.Init (init_message algorithm key))
message_of_entry number_of own_message (Shared (GrantFlat key permissions)) = Some (member.GrantFlat (grant_message number_of key permissions))
message_of_entry number_of own_message (Shared (RevokeFlat key_id permissions)) = Some (member.RevokeFlat (revoke_message number_of key_id permissions))
message_of_entry number_of own_message (Own own) = Some (own_message own)

-- a time is always written, as seconds and nanoseconds
abbrev pub time_message : Time → TimestampValue
time_message t = record { seconds = t.seconds; nanos = pos t.nanos }

-- the message of a record, by the messages of its entries
abbrev pub record_message : {E P O : Type 0} → (EntryData P O → E) → RecordData P O → RecordValue (List E)
record_message entry_message s = record {
  prev = option_map id_text s.prev;
  version = s.version;
  time = Some (time_message s.time);
  entries = map entry_message s.entries;
}

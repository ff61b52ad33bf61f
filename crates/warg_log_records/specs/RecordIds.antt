-- The ids of records, by their content bytes as they came, and as texts.
use Rattle.std.specs.Prelude.{ℕ, List, Result, Ok, Err}
use Rattle.warg_crypto.specs.HashText.{hash_of}
use Rattle.warg_log_records.specs.RecordHashes as hash
use Rattle.warg_crypto.specs.declared.hash.AnyHash.{AnyHash}
use Rattle.warg_crypto.specs.declared.hash.AnyHashError.{AnyHashError}
use Rattle.warg_crypto.specs.declared.hash.HashAlgorithm.{HashAlgorithm}
use Rattle.warg_log_records.specs.declared.record_id.RecordId.{RecordId}

-- the id by a digest of this algorithm, of what is hashed
abbrev pub id_by : HashAlgorithm → (List ℕ → List ℕ) → List ℕ → RecordId
id_by algorithm digest_of message = record { hash = record { algorithm = algorithm; bytes = digest_of message } }

-- the id of a package record by SHA-256
abbrev pub package_record_id_of : List ℕ → RecordId
package_record_id_of content = record { hash = hash.package_record_id_of content }

-- the id of an operator record by SHA-256
abbrev pub operator_record_id_of : List ℕ → RecordId
operator_record_id_of content = record { hash = hash.operator_record_id_of content }

-- the id that is the hash, or the fault
abbrev pub id_of_hash : Result AnyHash AnyHashError → Result RecordId AnyHashError
id_of_hash (Ok hash) = Ok (record { hash = hash })
id_of_hash (Err fault) = Err fault

-- the id whose hash a text spells, or the text's first fault
abbrev pub id_of_text : List ℕ → Result RecordId AnyHashError
id_of_text text = id_of_hash (hash_of text)

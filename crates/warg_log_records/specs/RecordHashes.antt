-- The hashes that the ids of records are: of a prefix that names the kind of log, and the content bytes.
use Rattle.std.specs.Prelude.{ℕ, List, ◌++◌, codes}
use Rattle.warg_crypto.specs.HashText.{sha256_hash_of}
use Rattle.warg_crypto.specs.declared.hash.AnyHash.{AnyHash}

-- what the id of an operator record hashes
abbrev pub operator_record_message : List ℕ → List ℕ
operator_record_message content = codes "WARG-OPERATOR-LOG-RECORD-V0:" ++ content

-- what the id of a package record hashes
abbrev pub package_record_message : List ℕ → List ℕ
package_record_message content = codes "WARG-PACKAGE-LOG-RECORD-V0:" ++ content

-- the id of an operator record
abbrev pub operator_record_id_of : List ℕ → AnyHash
operator_record_id_of content = sha256_hash_of (operator_record_message content)

-- the id of a package record
abbrev pub package_record_id_of : List ℕ → AnyHash
package_record_id_of content = sha256_hash_of (package_record_message content)

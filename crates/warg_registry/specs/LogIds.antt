-- The ids of logs: the hash of a prefix that names the kind of log, and of what sets the log apart from others; and
-- their texts.
use Rattle.std.specs.Prelude.{ℕ, List, ◌++◌, codes, Result, Ok, Err}
use Rattle.warg_crypto.specs.HashText.{hash_of}
use Rattle.warg_crypto.specs.declared.hash.AnyHash.{AnyHash}
use Rattle.warg_crypto.specs.declared.hash.AnyHashError.{AnyHashError}
use Rattle.warg_registry.specs.declared.log_id.LogId.{LogId}
use Rattle.warg_registry.specs.PrefixEncodings.{package_name_encoding_of}

-- what the id of the operator log hashes
abbrev pub operator_log_message : List ℕ
operator_log_message = codes "WARG-OPERATOR-LOG-ID-V0"

-- what the id of a package's log hashes
abbrev pub package_log_message : List ℕ → List ℕ
package_log_message name = codes "WARG-PACKAGE-LOG-ID-V0:" ++ package_name_encoding_of name

-- the id that is the hash, or the fault
abbrev pub id_of_hash : Result AnyHash AnyHashError → Result LogId AnyHashError
id_of_hash (Ok hash) = Ok (record { hash = hash })
id_of_hash (Err fault) = Err fault

-- the id whose hash a text spells, or the text's first fault
abbrev pub id_of_text : List ℕ → Result LogId AnyHashError
id_of_text text = id_of_hash (hash_of text)

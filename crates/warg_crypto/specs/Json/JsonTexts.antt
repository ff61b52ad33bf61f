-- The JSON of hashes, keys and signatures, which are written as their text.
use Rattle.std.specs.Prelude.{ℕ, List, Result}
use Rattle.serde_json.specs.Data.{Data, string}
use Rattle.warg_crypto.specs.declared.hash.AnyHash.{AnyHash}
use Rattle.warg_crypto.specs.declared.hash.HashAlgorithm.{HashAlgorithm}
use Rattle.warg_crypto.specs.declared.json.error.JsonError.{JsonError}
use Rattle.warg_crypto.specs.HashText.{algorithm_of, algorithm_text, hash_of, hash_text}
use Rattle.warg_crypto.specs.Json.Json.{◌>>=◌, or_bad_text, text_in, json_result}
use Rattle.warg_crypto.specs.NamedBytes.{NamedBytes, named_bytes_text}
use Rattle.warg_crypto.specs.Keys.{public_key_of, signature_of}

-- a hash algorithm: its name
abbrev pub algorithm_json : HashAlgorithm → Result Data JsonError
algorithm_json a = json_result (string (algorithm_text a))

-- the hash algorithm that a JSON text names, or the fault
abbrev pub algorithm_in : Data → Result HashAlgorithm JsonError
algorithm_in d = text_in d >>= λ text. or_bad_text (algorithm_of text)

-- a hash: its text
abbrev pub hash_json : AnyHash → Result Data JsonError
hash_json h = json_result (string (hash_text h))

-- the hash that a JSON text spells, or the fault
abbrev pub hash_in : Data → Result AnyHash JsonError
hash_in d = text_in d >>= λ text. or_bad_text (hash_of text)

-- a key id, which is any text
abbrev pub key_id_json : List ℕ → Result Data JsonError
key_id_json id = json_result (string id)

-- the key id that a JSON text is; any text is one
abbrev pub key_id_in : Data → Result (List ℕ) JsonError
key_id_in d = text_in d

-- a public key: its text
abbrev pub key_json : NamedBytes → Result Data JsonError
key_json key = json_result (string (named_bytes_text key))

-- the public key that a JSON text spells, or the fault
abbrev pub key_in : Data → Result NamedBytes JsonError
key_in d = text_in d >>= λ text. or_bad_text (public_key_of text)

-- a signature: its text
abbrev pub signature_json : NamedBytes → Result Data JsonError
signature_json signature = json_result (string (named_bytes_text signature))

-- the signature that a JSON text spells, or the fault
abbrev pub signature_in : Data → Result NamedBytes JsonError
signature_in d = text_in d >>= λ text. or_bad_text (signature_of text)

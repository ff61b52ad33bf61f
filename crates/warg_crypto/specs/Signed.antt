-- What is signed, and the toy scheme.
use Rattle.std.specs.Prelude.{ℕ, Bool, ◌&&◌, List, ◌∷◌, ◌++◌, codes}
use Rattle.std.specs.Str.{bytes_eq}
use Rattle.sha2.specs.Sha256.{sha256}
use Rattle.warg_crypto.specs.NamedBytes.{NamedBytes, same_named_bytes}

-- the message that is signed: the prefix of its kind, a colon, the content bytes
abbrev pub signed_message : List ℕ → List ℕ → List ℕ
signed_message prefix content = prefix ++ 58 ∷ content

-- the signature of the toy scheme: the hash of the key's bytes and the message
abbrev pub toy_signature : List ℕ → List ℕ → NamedBytes
toy_signature key_bytes message = record { name = codes "toy"; bytes = sha256 (key_bytes ++ message) }

-- a signature belongs to a message under a key named `toy` if it is the toy scheme's
abbrev pub toy_belongs : NamedBytes → List ℕ → NamedBytes → Bool
toy_belongs key message signature = bytes_eq key.name (codes "toy") && same_named_bytes signature (toy_signature key.bytes message)

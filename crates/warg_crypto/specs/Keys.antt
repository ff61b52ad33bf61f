-- The texts of keys and of signatures.
use Rattle.std.specs.Prelude.{ℕ, List, Result, Ok, Err}
use Rattle.warg_crypto.specs.NamedBytes.{NamedBytes, named_bytes_of}
use Rattle.warg_crypto.specs.declared.signing.algorithm_bytes.NamedBytesError.{NamedBytesError}
use Rattle.warg_crypto.specs.declared.signing.algorithm_bytes.NamedBytesError.TheVariants as fault
use Rattle.warg_crypto.specs.declared.signing.error.KeyParseError.{KeyParseError}
use Rattle.warg_crypto.specs.declared.signing.error.KeyParseError.TheVariants as key
use Rattle.warg_crypto.specs.declared.signing.error.SignatureParseError.{SignatureParseError}
use Rattle.warg_crypto.specs.declared.signing.error.SignatureParseError.TheVariants as signature

-- a text's fault, as that of a key
abbrev pub key_fault : NamedBytesError → KeyParseError
key_fault fault.MissingColon = key.MissingColon
key_fault fault.EmptyAlgorithm = key.EmptyAlgorithm
key_fault fault.BadBase64 = key.BadBase64
key_fault fault.OutOfMemory = key.OutOfMemory

-- a text's fault, as that of a signature
abbrev pub signature_fault : NamedBytesError → SignatureParseError
signature_fault fault.MissingColon = signature.MissingColon
signature_fault fault.EmptyAlgorithm = signature.EmptyAlgorithm
signature_fault fault.BadBase64 = signature.BadBase64
signature_fault fault.OutOfMemory = signature.OutOfMemory

-- what a text says, or its fault, as that of a key or of a signature
abbrev pub with_fault : {E : Type 0} → (NamedBytesError → E) → Result NamedBytes NamedBytesError → Result NamedBytes E
with_fault named (Ok tag) = Ok tag
with_fault named (Err e) = Err (named e)

-- the key that a text says, or its first fault
abbrev pub public_key_of : List ℕ → Result NamedBytes KeyParseError
public_key_of text = with_fault key_fault (named_bytes_of text)

-- the signature that a text says, or its first fault
abbrev pub signature_of : List ℕ → Result NamedBytes SignatureParseError
signature_of text = with_fault signature_fault (named_bytes_of text)

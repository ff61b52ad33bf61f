-- The faults of the parts of a line, as faults of the line.
use Rattle.hex.specs.declared.error.FromHexError.{FromHexError}
use Rattle.hex.specs.declared.error.FromHexError.TheVariants as digits
use Rattle.warg_crypto.specs.declared.signing.error.KeyParseError.{KeyParseError}
use Rattle.warg_crypto.specs.declared.signing.error.KeyParseError.TheVariants as key
use Rattle.warg_crypto.specs.declared.signing.error.SignatureParseError.{SignatureParseError}
use Rattle.warg_crypto.specs.declared.signing.error.SignatureParseError.TheVariants as signature
use Rattle.warg_claims.specs.declared.verified.error.ClaimParseError.{ClaimParseError}
use Rattle.warg_claims.specs.declared.verified.error.ClaimParseError.TheVariants as fault

-- a key's fault, as that of its line
abbrev pub key_fault : KeyParseError → ClaimParseError
key_fault key.OutOfMemory = fault.OutOfMemory
key_fault key.MissingColon = fault.Key key.MissingColon
key_fault key.EmptyAlgorithm = fault.Key key.EmptyAlgorithm
key_fault key.BadBase64 = fault.Key key.BadBase64

-- a message's fault, as that of its line
abbrev pub message_fault : FromHexError → ClaimParseError
message_fault digits.OutOfMemory = fault.OutOfMemory
message_fault (digits.InvalidHexCharacter c index) = fault.BadHex
message_fault digits.OddLength = fault.BadHex
message_fault digits.InvalidStringLength = fault.BadHex

-- a signature's fault, as that of its line
abbrev pub signature_fault : SignatureParseError → ClaimParseError
signature_fault signature.OutOfMemory = fault.OutOfMemory
signature_fault signature.MissingColon = fault.Signature signature.MissingColon
signature_fault signature.EmptyAlgorithm = fault.Signature signature.EmptyAlgorithm
signature_fault signature.BadBase64 = fault.Signature signature.BadBase64

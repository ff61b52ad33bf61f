-- The names of faults: the names of their cases, from the outside in, joined by dots, without fields.
use Rattle.std.specs.Prelude.{ℕ, List, ◌++◌, codes, unwrap_or}
use Rattle.std.specs.Option.{option_map}
use Rattle.warg_crypto.specs.declared.coding.WireFault.{WireFault}
use Rattle.warg_crypto.specs.declared.coding.WireFault.TheVariants as fault
use Rattle.warg_crypto.specs.declared.hash.AnyHashError.{AnyHashError}
use Rattle.warg_crypto.specs.declared.hash.AnyHashError.TheVariants as hash
use Rattle.warg_crypto.specs.declared.signing.error.KeyParseError.{KeyParseError}
use Rattle.warg_crypto.specs.declared.signing.error.KeyParseError.TheVariants as key
use Rattle.warg_crypto.specs.declared.signing.error.SignatureParseError.{SignatureParseError}
use Rattle.warg_crypto.specs.declared.signing.error.SignatureParseError.TheVariants as signature
use Rattle.warg_protobuf.specs.declared.error.WireError.{WireError}
use Rattle.warg_protobuf.specs.declared.error.WireError.TheVariants as wire
use Rattle.warg_envelope.specs.Envelopes.{EnvelopeFault, ProtobufEnvelope, Contents, Signature, KeyID, ContentsOutOfMemory, envelope_fault_of}
use Rattle.warg_envelope.specs.Faults.{RecordFault, fault_of}
use Rattle.warg_envelope.specs.Faults as record_fault
use Rattle.warg_envelope.specs.declared.proto_envelope.error.ParseEnvelopeError.{ParseEnvelopeError}

-- the name of a fault of the outer message
abbrev pub wire_name : WireError → List ℕ
wire_name wire.Truncated = codes "Truncated"
wire_name wire.VarintTooLong = codes "VarintTooLong"
wire_name wire.BadKey = codes "BadKey"
wire_name wire.Group = codes "Group"
wire_name wire.WrongWireType = codes "WrongWireType"
wire_name wire.NotUtf8 = codes "NotUtf8"
wire_name wire.OutOfMemory = codes "OutOfMemory"

-- the name of a fault of the record's message
abbrev pub wire_fault_name : WireFault → List ℕ
wire_fault_name fault.Truncated = codes "Truncated"
wire_fault_name fault.VarintTooLong = codes "VarintTooLong"
wire_fault_name fault.BadKey = codes "BadKey"
wire_fault_name fault.Group = codes "Group"
wire_fault_name fault.WrongWireType = codes "WrongWireType"
wire_fault_name fault.NotUtf8 = codes "NotUtf8"
wire_fault_name fault.OutOfMemory = codes "OutOfMemory"

-- the name of a fault of a hash's text
abbrev pub hash_error_name : AnyHashError → List ℕ
hash_error_name hash.MissingAlgorithm = codes "MissingAlgorithm"
hash_error_name hash.UnknownAlgorithm = codes "UnknownAlgorithm"
hash_error_name hash.BadHex = codes "BadHex"
hash_error_name hash.BadLength = codes "BadLength"

-- the name of a fault of a key's text
abbrev pub key_error_name : KeyParseError → List ℕ
key_error_name key.MissingColon = codes "MissingColon"
key_error_name key.EmptyAlgorithm = codes "EmptyAlgorithm"
key_error_name key.BadBase64 = codes "BadBase64"
key_error_name key.OutOfMemory = codes "OutOfMemory"

-- the name of a fault of a signature's text
abbrev pub signature_error_name : SignatureParseError → List ℕ
signature_error_name signature.MissingColon = codes "MissingColon"
signature_error_name signature.EmptyAlgorithm = codes "EmptyAlgorithm"
signature_error_name signature.BadBase64 = codes "BadBase64"
signature_error_name signature.OutOfMemory = codes "OutOfMemory"

-- the name of a record's fault
abbrev pub record_fault_name : RecordFault → List ℕ
record_fault_name (record_fault.Wire e) = codes "Wire." ++ wire_fault_name e
record_fault_name (record_fault.Prev e) = codes "Prev." ++ hash_error_name e
record_fault_name record_fault.MissingTime = codes "MissingTime"
record_fault_name record_fault.TimeOutOfRange = codes "TimeOutOfRange"
record_fault_name record_fault.EmptyEntry = codes "EmptyEntry"
record_fault_name record_fault.Algorithm = codes "Algorithm"
record_fault_name (record_fault.Key e) = codes "Key." ++ key_error_name e
record_fault_name (record_fault.Permission value) = codes "Permission"
record_fault_name record_fault.Version = codes "Version"
record_fault_name (record_fault.ContentHash e) = codes "ContentHash." ++ hash_error_name e

-- the name of an envelope's fault, by the names of the faults of its contents
abbrev pub envelope_fault_name : {F : Type 0} → (F → List ℕ) → EnvelopeFault F → List ℕ
envelope_fault_name fault_name (ProtobufEnvelope e) = codes "ProtobufEnvelope." ++ wire_name e
envelope_fault_name fault_name (Contents f) = codes "Contents." ++ fault_name f
envelope_fault_name fault_name (Signature e) = codes "Signature." ++ signature_error_name e
envelope_fault_name fault_name (KeyID e) = codes "KeyID." ++ hash_error_name e
envelope_fault_name fault_name ContentsOutOfMemory = codes "Contents.OutOfMemory"

-- the name of an error: of the fault that it says, if it says one
abbrev pub error_name : ParseEnvelopeError → List ℕ
error_name error = unwrap_or (option_map (envelope_fault_name record_fault_name) (envelope_fault_of fault_of error)) (codes "OutOfMemory")

-- The names of faults and offences are plain.
use Rattle.std.proofs.Common.{◌≡◌, ℕ, true, List, codes, Option, Some, None, refl}
use Rattle.std.specs.Prelude.{unwrap_or}
use Rattle.std.specs.Option.{option_map}
use Rattle.warg_crypto.specs.declared.hash.AnyHashError.{AnyHashError}
use Rattle.warg_crypto.specs.declared.hash.AnyHashError.TheVariants as hash
use Rattle.warg_crypto.specs.declared.signing.error.KeyParseError.{KeyParseError}
use Rattle.warg_crypto.specs.declared.signing.error.KeyParseError.TheVariants as key
use Rattle.warg_crypto.specs.declared.signing.error.SignatureParseError.{SignatureParseError}
use Rattle.warg_crypto.specs.declared.signing.error.SignatureParseError.TheVariants as signature
use Rattle.warg_envelope.specs.FaultNames.{envelope_fault_name, error_name, hash_error_name, key_error_name, record_fault_name, signature_error_name, wire_fault_name, wire_name}
use Rattle.warg_envelope.specs.Envelopes.{Contents, ContentsOutOfMemory, EnvelopeFault, KeyID, ProtobufEnvelope, Signature, envelope_fault_of}
use Rattle.warg_envelope.specs.Faults.{RecordFault, fault_of}
use Rattle.warg_envelope.specs.Faults as record_fault
use Rattle.warg_crypto.specs.declared.coding.WireFault.{WireFault}
use Rattle.warg_crypto.specs.declared.coding.WireFault.TheVariants as fault
use Rattle.warg_envelope.specs.declared.proto_envelope.error.ParseEnvelopeError.{ParseEnvelopeError}
use Rattle.warg_log.specs.OffenceNames.{log_offence_name, shared_name}
use Rattle.warg_log.specs.Offences.{Offence}
use Rattle.warg_log.specs.Offences as shared
use Rattle.warg_log.specs.Rules.{LogOffence}
use Rattle.warg_operator_log.specs.Namespaces.{OwnOffence as NamespaceOffence}
use Rattle.warg_operator_log.specs.Namespaces as namespaces
use Rattle.warg_operator_log.specs.OffenceNames.{namespace_offence_name}
use Rattle.warg_package_log.specs.OffenceNames.{release_offence_name}
use Rattle.warg_package_log.specs.Releases.{OwnOffence as ReleaseOffence}
use Rattle.warg_package_log.specs.Releases as releases
use Rattle.warg_protobuf.specs.declared.error.WireError.{WireError}
use Rattle.warg_protobuf.specs.declared.error.WireError.TheVariants as wire
use Rattle.tool_laws.specs.Plain.Plain.{is_plain}
use Rattle.tool_laws.proofs.PlainLemmas.PlainLemmas.{plain_append}

-- ---- faults

wire_plain : (e : WireError) → is_plain (wire_name e) ≡ true
wire_plain wire.Truncated = refl
wire_plain wire.VarintTooLong = refl
wire_plain wire.BadKey = refl
wire_plain wire.Group = refl
wire_plain wire.WrongWireType = refl
wire_plain wire.NotUtf8 = refl
wire_plain wire.OutOfMemory = refl

wire_fault_plain : (e : WireFault) → is_plain (wire_fault_name e) ≡ true
wire_fault_plain fault.Truncated = refl
wire_fault_plain fault.VarintTooLong = refl
wire_fault_plain fault.BadKey = refl
wire_fault_plain fault.Group = refl
wire_fault_plain fault.WrongWireType = refl
wire_fault_plain fault.NotUtf8 = refl
wire_fault_plain fault.OutOfMemory = refl

hash_error_plain : (e : AnyHashError) → is_plain (hash_error_name e) ≡ true
hash_error_plain hash.MissingAlgorithm = refl
hash_error_plain hash.UnknownAlgorithm = refl
hash_error_plain hash.BadHex = refl
hash_error_plain hash.BadLength = refl

key_error_plain : (e : KeyParseError) → is_plain (key_error_name e) ≡ true
key_error_plain key.MissingColon = refl
key_error_plain key.EmptyAlgorithm = refl
key_error_plain key.BadBase64 = refl
key_error_plain key.OutOfMemory = refl

signature_error_plain : (e : SignatureParseError) → is_plain (signature_error_name e) ≡ true
signature_error_plain signature.MissingColon = refl
signature_error_plain signature.EmptyAlgorithm = refl
signature_error_plain signature.BadBase64 = refl
signature_error_plain signature.OutOfMemory = refl

pub record_fault_plain : (f : RecordFault) → is_plain (record_fault_name f) ≡ true
record_fault_plain (record_fault.Wire e) = plain_append (codes "Wire.") (wire_fault_name e) refl (wire_fault_plain e)
record_fault_plain (record_fault.Prev e) = plain_append (codes "Prev.") (hash_error_name e) refl (hash_error_plain e)
record_fault_plain record_fault.MissingTime = refl
record_fault_plain record_fault.TimeOutOfRange = refl
record_fault_plain record_fault.EmptyEntry = refl
record_fault_plain record_fault.Algorithm = refl
record_fault_plain (record_fault.Key e) = plain_append (codes "Key.") (key_error_name e) refl (key_error_plain e)
record_fault_plain (record_fault.Permission value) = refl
record_fault_plain record_fault.Version = refl
record_fault_plain (record_fault.ContentHash e) = plain_append (codes "ContentHash.") (hash_error_name e) refl (hash_error_plain e)

pub envelope_fault_plain : {F : Type 0} (name : F → List ℕ) → ((f : F) → is_plain (name f) ≡ true) → (f : EnvelopeFault F)
    → is_plain (envelope_fault_name name f) ≡ true
envelope_fault_plain name plain (ProtobufEnvelope e) = plain_append (codes "ProtobufEnvelope.") (wire_name e) refl (wire_plain e)
envelope_fault_plain name plain (Contents f) = plain_append (codes "Contents.") (name f) refl (plain f)
envelope_fault_plain name plain (Signature e) = plain_append (codes "Signature.") (signature_error_name e) refl (signature_error_plain e)
envelope_fault_plain name plain (KeyID e) = plain_append (codes "KeyID.") (hash_error_name e) refl (hash_error_plain e)
envelope_fault_plain name plain ContentsOutOfMemory = refl

fault_or_plain : (o : Option (EnvelopeFault RecordFault))
    → is_plain (unwrap_or (option_map (envelope_fault_name record_fault_name) o) (codes "OutOfMemory")) ≡ true
fault_or_plain None = refl
fault_or_plain (Some f) = envelope_fault_plain record_fault_name record_fault_plain f

pub error_plain : (error : ParseEnvelopeError) → is_plain (error_name error) ≡ true
error_plain error = fault_or_plain (envelope_fault_of fault_of error)

-- ---- offences

shared_plain : {P : Type 0} (o : Offence P) → is_plain (shared_name o) ≡ true
shared_plain shared.FirstEntryIsNotInit = refl
shared_plain shared.InitialRecordDoesNotInit = refl
shared_plain (shared.KeyIDNotRecognized key_id) = refl
shared_plain shared.InitialEntryAfterBeginning = refl
shared_plain (shared.UnauthorizedAction key_id permission) = refl
shared_plain (shared.PermissionNotFoundToRevoke permission key_id) = refl
shared_plain (shared.WrongSignature fault) = refl
shared_plain (shared.IncorrectHashAlgorithm found expected) = refl
shared_plain shared.RecordHashDoesNotMatch = refl
shared_plain shared.PreviousHashOnFirstRecord = refl
shared_plain shared.NoPreviousHashAfterInit = refl
shared_plain (shared.ProtocolVersionNotAllowed version) = refl
shared_plain shared.TimestampLowerThanPrevious = refl
shared_plain (shared.EmptyGrant key_id) = refl

pub offence_plain : {P F : Type 0} (own_name : F → List ℕ) → ((f : F) → is_plain (own_name f) ≡ true) → (o : LogOffence P F)
    → is_plain (log_offence_name own_name o) ≡ true
offence_plain own_name plain (LogOffence.Shared offence) = shared_plain offence
offence_plain own_name plain (LogOffence.Own offence) = plain offence
offence_plain own_name plain LogOffence.Unreadable = refl

pub release_offence_plain : (o : ReleaseOffence) → is_plain (release_offence_name o) ≡ true
release_offence_plain (releases.ReleaseOfReleased version) = refl
release_offence_plain (releases.YankOfUnreleased version) = refl
release_offence_plain (releases.YankOfYanked version) = refl

pub namespace_offence_plain : (o : NamespaceOffence) → is_plain (namespace_offence_name o) ≡ true
namespace_offence_plain (namespaces.InvalidNamespace name) = refl
namespace_offence_plain (namespaces.NamespaceAlreadyDefined name) = refl

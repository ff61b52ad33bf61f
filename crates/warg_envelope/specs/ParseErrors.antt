-- Which error of an envelope a part's error is. Out of memory stays out of memory.
use Rattle.warg_crypto.specs.declared.coding.DecodeError.{DecodeError}
use Rattle.warg_crypto.specs.declared.coding.DecodeError.TheVariants as contents
use Rattle.warg_crypto.specs.declared.signing.error.SignatureParseError.{SignatureParseError}
use Rattle.warg_crypto.specs.declared.signing.error.SignatureParseError.TheVariants as signature
use Rattle.warg_protobuf.specs.declared.error.WireError.{WireError}
use Rattle.warg_protobuf.specs.declared.error.WireError.TheVariants as wire
use Rattle.warg_envelope.specs.declared.proto_envelope.error.ParseEnvelopeError.{ParseEnvelopeError}
use Rattle.warg_envelope.specs.declared.proto_envelope.error.ParseEnvelopeError.TheVariants.{ProtobufEnvelope, Contents, Signature, OutOfMemory}

-- the error of bytes that are no outer message
abbrev pub wire_error : WireError → ParseEnvelopeError
wire_error wire.OutOfMemory = OutOfMemory
wire_error w = ProtobufEnvelope w

-- the error of contents that are no record
abbrev pub contents_error : DecodeError → ParseEnvelopeError
contents_error contents.OutOfMemory = OutOfMemory
contents_error d = Contents d

-- the error of a text that is no signature
abbrev pub signature_error : SignatureParseError → ParseEnvelopeError
signature_error signature.OutOfMemory = OutOfMemory
signature_error s = Signature s

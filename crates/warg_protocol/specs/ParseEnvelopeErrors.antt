-- The cases of `ParseEnvelopeError`.
pub use Rattle.warg_envelope.specs.declared.proto_envelope.error.ParseEnvelopeError.TheVariants.{ProtobufEnvelope, Contents, KeyID, Signature, OutOfMemory}

-- The error types that a clause of one's own may name.
pub use Rattle.warg_protobuf.specs.declared.error.WireError.{WireError}
pub use Rattle.warg_crypto.specs.declared.coding.DecodeError.{DecodeError}
pub use Rattle.warg_envelope.specs.declared.proto_envelope.error.ParseEnvelopeError.{ParseEnvelopeError}

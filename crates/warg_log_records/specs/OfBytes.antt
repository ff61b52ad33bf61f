-- Which faults are faults of bytes: all but those that say that memory ran out, or that no bytes have.
use Rattle.warg_crypto.specs.declared.coding.WireFault.TheVariants as wire
use Rattle.warg_crypto.specs.declared.signing.error.KeyParseError.TheVariants as key
use Rattle.warg_crypto.specs.declared.signing.error.SignatureParseError.TheVariants as signature
use Rattle.warg_protobuf.specs.declared.error.WireError.TheVariants as outer
use Rattle.warg_envelope.specs.Envelopes.{EnvelopeFault, ProtobufEnvelope, Contents, Signature, KeyID, ContentsOutOfMemory}
use Rattle.warg_envelope.specs.Faults.{RecordFault, Wire, Key}

-- a fault that content bytes can have
abbrev pub IsOfContent : RecordFault → Type 0
IsOfContent (Wire wire.OutOfMemory) = ⊥
IsOfContent (Key key.OutOfMemory) = ⊥
IsOfContent f = Unit {0}

-- a fault that an envelope's bytes can have
abbrev pub IsOfEnvelope : EnvelopeFault RecordFault → Type 0
IsOfEnvelope (ProtobufEnvelope outer.OutOfMemory) = ⊥
IsOfEnvelope (ProtobufEnvelope w) = Unit {0}
IsOfEnvelope (Contents f) = IsOfContent f
IsOfEnvelope (Signature signature.OutOfMemory) = ⊥
IsOfEnvelope (Signature s) = Unit {0}
IsOfEnvelope (KeyID h) = ⊥
IsOfEnvelope ContentsOutOfMemory = ⊥

-- What is printed of errors.
use Rattle.std.specs.Prelude.{ℕ, List, codes}
use Rattle.warg_envelope.specs.declared.proto_envelope.error.ParseEnvelopeError.{ParseEnvelopeError}
use Rattle.warg_envelope.specs.declared.proto_envelope.error.ParseEnvelopeError.TheVariants.{ProtobufEnvelope, Contents, KeyID, Signature, OutOfMemory}

-- what is printed of an error: which part can't be read
abbrev pub error_text : ParseEnvelopeError → List ℕ
error_text (ProtobufEnvelope e) = codes "failed to parse the outer envelope protobuf message"
error_text (Contents e) = codes "failed to parse envelope contents from bytes"
error_text (KeyID e) = codes "failed to parse envelope key id"
error_text (Signature e) = codes "failed to parse envelope signature"
error_text OutOfMemory = codes "OutOfMemory"

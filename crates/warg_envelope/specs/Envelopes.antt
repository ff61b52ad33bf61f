-- What bytes say as an envelope, over what content bytes say as a record.
use Rattle.std.specs.Prelude.{◌≡◌, ℕ, List, Option, Some, None, Result, Ok, Err}
use Rattle.warg_crypto.specs.Keys.{signature_of}
use Rattle.warg_crypto.specs.NamedBytes.{NamedBytes, named_bytes_text}
use Rattle.warg_crypto.specs.declared.coding.DecodeError.{DecodeError}
use Rattle.warg_crypto.specs.declared.hash.AnyHashError.{AnyHashError}
use Rattle.warg_crypto.specs.declared.signing.error.SignatureParseError.{SignatureParseError}
use Rattle.warg_protobuf.specs.Envelope.{EnvelopeValue}
use Rattle.warg_protobuf.specs.Envelope as outer
use Rattle.warg_protobuf.specs.declared.error.WireError.{WireError}
use Rattle.warg_envelope.specs.Faults.{NamesFault}
use Rattle.warg_envelope.specs.EnvelopeData.{EnvelopeData, DecodedEnvelope}
use Rattle.warg_envelope.specs.declared.proto_envelope.error.ParseEnvelopeError.{ParseEnvelopeError}
use Rattle.warg_envelope.specs.declared.proto_envelope.error.ParseEnvelopeError.TheVariants as error

-- An envelope's first fault. No bytes have the two last: any text is a key id, and out of memory is never the
-- contents' own.
pub data EnvelopeFault (F : Type 0) : Type 0 where
  ProtobufEnvelope : WireError → EnvelopeFault F
  Contents : F → EnvelopeFault F
  Signature : SignatureParseError → EnvelopeFault F
  KeyID : AnyHashError → EnvelopeFault F
  ContentsOutOfMemory : EnvelopeFault F

-- the fault of the contents as the envelope's; where there is none they ran out of memory
abbrev pub contents_fault_of : {F : Type 0} → Option F → EnvelopeFault F
contents_fault_of (Some f) = Contents f
contents_fault_of None = ContentsOutOfMemory

-- the fault that an error names; out of memory names none
abbrev pub envelope_fault_of : {F : Type 0} → (DecodeError → Option F) → ParseEnvelopeError → Option (EnvelopeFault F)
envelope_fault_of fault_of (error.ProtobufEnvelope w) = Some (ProtobufEnvelope w)
envelope_fault_of fault_of (error.Contents e) = Some (contents_fault_of (fault_of e))
envelope_fault_of fault_of (error.KeyID h) = Some (KeyID h)
envelope_fault_of fault_of (error.Signature s) = Some (Signature s)
envelope_fault_of fault_of error.OutOfMemory = None

-- the envelope of an outer message whose signature reads as this
abbrev pub signed_data : {F : Type 0} → EnvelopeValue → Result NamedBytes SignatureParseError
    → Result EnvelopeData (EnvelopeFault F)
signed_data v (Ok tag) = Ok (record { content = v.contents; key_id = v.key_id; signature = tag })
signed_data v (Err s) = Err (Signature s)

-- the envelope of an outer message whose contents read as this
abbrev pub enclosed_data : {M F : Type 0} → EnvelopeValue → Result M F → Result EnvelopeData (EnvelopeFault F)
enclosed_data v (Ok m) = signed_data v (signature_of v.signature)
enclosed_data v (Err f) = Err (Contents f)

-- the envelope of bytes that read as this outer message
abbrev pub opened_data : {M F : Type 0} → (List ℕ → Result M F) → Result EnvelopeValue WireError
    → Result EnvelopeData (EnvelopeFault F)
opened_data read (Ok v) = enclosed_data v (read v.contents)
opened_data read (Err w) = Err (ProtobufEnvelope w)

-- the envelope that bytes say, or their first fault: of the outer message, the contents, the signature's text
abbrev pub envelope_of : {M F : Type 0} → (List ℕ → Result M F) → List ℕ → Result EnvelopeData (EnvelopeFault F)
envelope_of read bytes = opened_data read (outer.envelope_of bytes)

-- the outer message of an envelope
abbrev pub envelope_message : EnvelopeData → EnvelopeValue
envelope_message envelope = record { contents = envelope.content; key_id = envelope.key_id; signature = named_bytes_text envelope.signature }

-- the record that is held is the one that the content bytes say
abbrev pub ContentsMatchBytes : {C M F : Type 0} → (List ℕ → Result M F) → (C → M) → DecodedEnvelope C → Type 0
ContentsMatchBytes read meaning e = read e.envelope.content ≡ Ok (meaning e.contents)

-- the answer is what the bytes say, out of memory aside
abbrev pub IsOpening : {C M F : Type 0} → (List ℕ → Result M F) → (C → M) → (DecodeError → Option F) → List ℕ
    → Result (DecodedEnvelope C) ParseEnvelopeError → Type 0
IsOpening read meaning fault_of bytes (Ok e) = (envelope_of read bytes ≡ Ok e.envelope) × ContentsMatchBytes read meaning e
IsOpening read meaning fault_of bytes (Err e) = NamesFault (envelope_of read bytes) (envelope_fault_of fault_of e)

-- What bytes are as an envelope, by the outer message and the record that they are: the relation beside the computed
-- reading.
use Rattle.std.specs.Prelude.{◌≡◌, ℕ, List, Result, Ok, Err}
use Rattle.warg_crypto.specs.Keys.{signature_of}
use Rattle.warg_crypto.specs.declared.signing.error.SignatureParseError.{SignatureParseError}
use Rattle.warg_protobuf.specs.Envelope.{EnvelopeValue, envelope_table}
use Rattle.warg_protobuf.specs.Envelope as message
use Rattle.warg_protobuf.specs.Table.{HasFault}
use Rattle.warg_protobuf.specs.declared.error.WireError.{WireError}
use Rattle.warg_envelope.specs.Envelopes.{EnvelopeFault, ProtobufEnvelope, Contents, Signature}
use Rattle.warg_envelope.specs.EnvelopeData.{EnvelopeData}

module _ {M F : Type 0} (IsRecord : List ℕ → M → Type 0) (HasContentsFault : List ℕ → F → Type 0) where
  -- the bytes are an outer message whose contents are a record, and whose signature's text is a signature
  pub record IsEnvelope (bytes : List ℕ) (envelope : EnvelopeData) : Type 0 where
    pub outer : EnvelopeValue
    pub is : message.IsEnvelope bytes outer
    pub meaning : M
    pub says : IsRecord outer.contents meaning
    pub signature : signature_of outer.signature ≡ Ok envelope.signature
    pub content : envelope.content ≡ outer.contents
    pub key_id : envelope.key_id ≡ outer.key_id

  -- the first fault: of the outer message, or else of its contents, or else of the signature's text
  pub data HasEnvelopeFault (bytes : List ℕ) : EnvelopeFault F → Type 0 where
    of_outer : {w : WireError} → HasFault envelope_table bytes w → HasEnvelopeFault bytes (ProtobufEnvelope w)
    of_contents : {v : EnvelopeValue} {f : F} → message.IsEnvelope bytes v → HasContentsFault v.contents f
        → HasEnvelopeFault bytes (Contents f)
    of_signature : {v : EnvelopeValue} {m : M} {s : SignatureParseError} → message.IsEnvelope bytes v
        → IsRecord v.contents m → signature_of v.signature ≡ Err s → HasEnvelopeFault bytes (Signature s)

  -- what is computed of the bytes is the envelope that they are, or their first fault
  pub record ReadsEnvelope (read : Result EnvelopeData (EnvelopeFault F)) (bytes : List ℕ) : Type 0 where
    pub value : (envelope : EnvelopeData) → read ≡ Ok envelope → IsEnvelope bytes envelope
    pub value_converse : (envelope : EnvelopeData) → IsEnvelope bytes envelope → read ≡ Ok envelope
    pub fault : (f : EnvelopeFault F) → read ≡ Err f → HasEnvelopeFault bytes f
    pub fault_converse : (f : EnvelopeFault F) → HasEnvelopeFault bytes f → read ≡ Err f

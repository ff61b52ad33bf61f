-- Content bytes in envelopes: that a key signed, that the toy key of a name signs, and that still lack their signature.
use Rattle.std.specs.Prelude.{◌≡◌, ℕ, List, [], IsUtf8}
use Rattle.warg_crypto.specs.NamedBytes.{NamedBytes, fingerprint_of}
use Rattle.warg_crypto.specs.Signed.{signed_message, toy_signature}
use Rattle.warg_envelope.specs.EnvelopeData.{EnvelopeData}
use Rattle.warg_envelope.specs.Envelopes.{envelope_message}
use Rattle.tool_changes.specs.Make.KeyWords.{toy_key}
use Rattle.warg_protobuf.specs.Envelope.{IsEnvelope, envelope_bytes}
use Rattle.warg_protobuf.specs.Writing.{bytes_field, bytes_of}

-- the envelope is of the content, under the id of the key and a signature that is given for its message
pub record IsSigned (Gives : List ℕ → NamedBytes → Type 0) (key : NamedBytes) (prefix content : List ℕ) (envelope : EnvelopeData) : Type 0 where
  pub contents : envelope.content ≡ content
  pub key_id : envelope.key_id ≡ fingerprint_of key
  pub signature : Gives (signed_message prefix content) envelope.signature

-- the bytes are an envelope of the content, under the id and the signature of the toy key of the name
pub record IsSealed (name prefix content bytes : List ℕ) : Type 0 where
  pub envelope : EnvelopeData
  pub contents : envelope.content ≡ content
  pub key_id : envelope.key_id ≡ fingerprint_of (toy_key name)
  pub signature : envelope.signature ≡ toy_signature name (signed_message prefix content)
  pub spelled : IsEnvelope bytes (envelope_message envelope)

-- the bytes are an envelope of the content, under the id of the key and whatever signature
pub record IsEnclosed (key : NamedBytes) (content bytes : List ℕ) : Type 0 where
  pub envelope : EnvelopeData
  pub contents : envelope.content ≡ content
  pub key_id : envelope.key_id ≡ fingerprint_of key
  pub spelled : IsEnvelope bytes (envelope_message envelope)

-- ---- what a key has to sign yet

-- the bytes of an envelope without its signature
abbrev pub unsigned_bytes : List ℕ → List ℕ → List ℕ
unsigned_bytes content key_id = envelope_bytes (record { contents = content; key_id = key_id; signature = [] })

-- the field of a signature's text
abbrev pub signature_bytes : List ℕ → List ℕ
signature_bytes text = bytes_of (bytes_field 3 text)

-- the envelope of the content under the id of the key lacks its signature, and the key has to sign the message
pub record IsUnsigned (key : NamedBytes) (prefix content envelope message : List ℕ) : Type 0 where
  pub envelope_is : envelope ≡ unsigned_bytes content (fingerprint_of key)
  pub utf8 : IsUtf8 (fingerprint_of key)
  pub message_is : message ≡ signed_message prefix content

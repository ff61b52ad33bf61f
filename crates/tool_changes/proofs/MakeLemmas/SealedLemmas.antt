-- Envelopes that a key signed, and envelopes that still lack their signature.
use Rattle.std.proofs.Common.{◌≡◌, ◌<◌, ◌^◌, ℕ, List, [], ◌∷◌, ◌++◌, length, IsUtf8, refl, sym, subst, ◌∙◌, ap}
use Rattle.warg_crypto.specs.NamedBytes.{NamedBytes, fingerprint_of}
use Rattle.warg_crypto.specs.Signed.{signed_message, toy_signature}
use Rattle.warg_envelope.specs.EnvelopeData.{EnvelopeData}
use Rattle.warg_envelope.specs.Envelopes.{envelope_message}
use Rattle.warg_protobuf.specs.Envelope.{EnvelopeValue, IsEnvelope, envelope_bytes}
use Rattle.warg_protobuf.specs.Writing.{bytes_field, bytes_of, field_bytes}
use Rattle.warg_protobuf.specs.Field.{Field}
use Rattle.warg_protobuf.proofs.WrittenMessages.{envelope_again}
use Rattle.tool_changes.specs.Make.KeyWords.{toy_key}
use Rattle.tool_changes.specs.Make.Sealed.{IsSealed, IsSigned, signature_bytes, unsigned_bytes}

-- the bytes of an envelope that the toy key of a name signed
pub sealed_by : (name : List ℕ) (key : NamedBytes) → key ≡ toy_key name → (prefix content bytes : List ℕ) (it : EnvelopeData)
    → IsSigned (λ message signature. signature ≡ toy_signature key.bytes message) key prefix content it
    → IsEnvelope bytes (envelope_message it) → IsSealed name prefix content bytes
sealed_by name key e prefix content bytes it is spelled = record {
  envelope = it;
  contents = is.contents;
  key_id = is.key_id ∙ ap fingerprint_of e;
  signature = is.signature ∙ ap (λ (k : NamedBytes). toy_signature k.bytes (signed_message prefix content)) e;
  spelled = spelled;
}

-- ---- the signature's field behind the others

append_assoc : (xs ys zs : List ℕ) → (xs ++ ys) ++ zs ≡ xs ++ (ys ++ zs)
append_assoc [] ys zs = refl
append_assoc (x ∷ xs) ys zs = ap (λ (rest : List ℕ). x ∷ rest) (append_assoc xs ys zs)

-- the bytes of fields and of those behind them
bytes_behind : (fs gs : List Field) → bytes_of (fs ++ gs) ≡ bytes_of fs ++ bytes_of gs
bytes_behind [] gs = refl
bytes_behind (f ∷ fs) gs =
    ap (λ (rest : List ℕ). field_bytes f ++ rest) (bytes_behind fs gs) ∙ sym (append_assoc (field_bytes f) (bytes_of fs) (bytes_of gs))

-- an envelope is what it is without its signature, and the signature's field
pub signature_last : (content key_id text : List ℕ)
    → envelope_bytes (record { contents = content; key_id = key_id; signature = text }) ≡ unsigned_bytes content key_id ++ signature_bytes text
signature_last content key_id text =
    let front = bytes_field 1 content in
    let middle = bytes_field 2 key_id in
    let last = bytes_field 3 text in
    bytes_behind front (middle ++ (last ++ []))
    ∙ (ap (λ (rest : List ℕ). bytes_of front ++ rest) (bytes_behind middle (last ++ [])
    ∙ ap (λ (rest : List ℕ). bytes_of middle ++ rest) (bytes_behind last [] ∙ no_more (bytes_of last)))
    ∙ (sym (append_assoc (bytes_of front) (bytes_of middle) (bytes_of last))
    ∙ ap (λ (rest : List ℕ). rest ++ bytes_of last) (sym (bytes_behind front (middle ++ [])
    ∙ ap (λ (rest : List ℕ). bytes_of front ++ rest) (bytes_behind middle [] ∙ no_more (bytes_of middle))))))
  where
    no_more : (xs : List ℕ) → xs ++ [] ≡ xs
    no_more [] = refl
    no_more (x ∷ xs) = ap (λ (rest : List ℕ). x ∷ rest) (no_more xs)

-- so with a signature's field it is the envelope with that signature
pub signed_again : (content key_id text : List ℕ) → IsUtf8 key_id → IsUtf8 text → length (unsigned_bytes content key_id ++ signature_bytes text) < 2 ^ 64
    → IsEnvelope (unsigned_bytes content key_id ++ signature_bytes text) (record { contents = content; key_id = key_id; signature = text })
signed_again content key_id text named told short =
    let it : EnvelopeValue = record { contents = content; key_id = key_id; signature = text } in
    subst (λ (bytes : List ℕ). IsEnvelope bytes it) (signature_last content key_id text)
    (envelope_again it (named, told) (subst (λ (bytes : List ℕ). length bytes < 2 ^ 64) (sym (signature_last content key_id text)) short))

-- The computed reading of envelopes is what bytes are, where that of their contents is.
use Rattle.std.proofs.Common.{◌≡◌, ℕ, List, Result, Ok, Err, refl, sym, ap, subst, ◌∙◌}
use Rattle.warg_crypto.specs.Keys.{signature_of}
use Rattle.warg_crypto.specs.NamedBytes.{NamedBytes}
use Rattle.warg_crypto.specs.declared.signing.error.SignatureParseError.{SignatureParseError}
use Rattle.warg_protobuf.specs.Envelope.{EnvelopeValue, envelope_table}
use Rattle.warg_protobuf.specs.Envelope as message
use Rattle.warg_protobuf.specs.Meaning.{Computes}
use Rattle.warg_protobuf.specs.declared.error.WireError.{WireError}
use Rattle.warg_envelope.specs.Envelopes.{EnvelopeFault, ProtobufEnvelope, Contents, Signature, signed_data, enclosed_data, opened_data, envelope_of}
use Rattle.warg_envelope.specs.EnvelopeRelations.{IsEnvelope, HasEnvelopeFault, of_outer, of_contents, of_signature, ReadsEnvelope}
use Rattle.warg_envelope.specs.EnvelopeData.{EnvelopeData}

module _ {Y F : Type 0} where
  abbrev pub an_ok : Y → Result Y F
  an_ok y = Ok y

  abbrev pub an_err : F → Result Y F
  an_err f = Err f

  pub ok_err : {A : Type 0} (y : Y) (f : F) → an_ok y ≡ an_err f → A
  ok_err y f h = absurd cc

  pub err_same : (f g : F) → an_err f ≡ an_err g → f ≡ g
  err_same f g h = cc

  ok_same : (x y : Y) → an_ok x ≡ an_ok y → x ≡ y
  ok_same x y h = cc

-- the same facts of a reading, one by one
pub record Reads {M F : Type 0} (IsMeaning : List ℕ → M → Type 0) (HasContentsFault : List ℕ → F → Type 0) (read : List ℕ → Result M F) : Type 0 where
  pub value : (c : List ℕ) (m : M) → read c ≡ Ok m → IsMeaning c m
  pub value_converse : (c : List ℕ) (m : M) → IsMeaning c m → read c ≡ Ok m
  pub fault : (c : List ℕ) (f : F) → read c ≡ Err f → HasContentsFault c f
  pub fault_converse : (c : List ℕ) (f : F) → HasContentsFault c f → read c ≡ Err f

module _ {M F : Type 0} (IsMeaning : List ℕ → M → Type 0) (HasContentsFault : List ℕ → F → Type 0) (read : List ℕ → Result M F) (reads : Reads IsMeaning HasContentsFault read) (computes : (b : List ℕ) → Computes envelope_table message.envelope_of message.IsEnvelope b) (bytes : List ℕ) where
  module _ (v : EnvelopeValue) (is : message.IsEnvelope bytes v) where
    signed_at : (m : M) → read v.contents ≡ Ok m → (t : Result NamedBytes SignatureParseError) → signature_of v.signature ≡ t → (envelope : EnvelopeData) → signed_data {F = F} v t ≡ Ok envelope → IsEnvelope IsMeaning HasContentsFault bytes envelope
    signed_at m em (Ok tag) et envelope h =
        subst (IsEnvelope IsMeaning HasContentsFault bytes) (ok_same {F = EnvelopeFault F} (record { content = v.contents; key_id = v.key_id; signature = tag }) envelope h)
        (record { outer = v; is = is; meaning = m; says = reads.value v.contents m em; signature = et; content = refl; key_id = refl })
    signed_at m em (Err s) et envelope h = ok_err envelope (Signature s) (sym h)

    enclosed_at : (m : Result M F) → read v.contents ≡ m → (envelope : EnvelopeData) → enclosed_data v m ≡ Ok envelope → IsEnvelope IsMeaning HasContentsFault bytes envelope
    enclosed_at (Ok m) em envelope h = signed_at m em (signature_of v.signature) refl envelope h
    enclosed_at (Err f) em envelope h = ok_err envelope (Contents f) (sym h)

    signed_fault : (m : M) → read v.contents ≡ Ok m → (t : Result NamedBytes SignatureParseError) → signature_of v.signature ≡ t → (f : EnvelopeFault F) → signed_data v t ≡ Err f → HasEnvelopeFault IsMeaning HasContentsFault bytes f
    signed_fault m em (Ok tag) et f h = ok_err (record { content = v.contents; key_id = v.key_id; signature = tag }) f h
    signed_fault m em (Err s) et f h = subst (HasEnvelopeFault IsMeaning HasContentsFault bytes) (err_same {Y = EnvelopeData} (Signature s) f h) (of_signature is (reads.value v.contents m em) et)

    enclosed_fault : (m : Result M F) → read v.contents ≡ m → (f : EnvelopeFault F) → enclosed_data v m ≡ Err f → HasEnvelopeFault IsMeaning HasContentsFault bytes f
    enclosed_fault (Ok m) em f h = signed_fault m em (signature_of v.signature) refl f h
    enclosed_fault (Err e) em f h = subst (HasEnvelopeFault IsMeaning HasContentsFault bytes) (err_same {Y = EnvelopeData} (Contents e) f h) (of_contents is (reads.fault v.contents e em))

  opened_at : (o : Result EnvelopeValue WireError) → message.envelope_of bytes ≡ o → (envelope : EnvelopeData) → opened_data read o ≡ Ok envelope → IsEnvelope IsMeaning HasContentsFault bytes envelope
  opened_at (Ok v) eo envelope h = enclosed_at v ((computes bytes).value v eo) (read v.contents) refl envelope h
  opened_at (Err w) eo envelope h = ok_err envelope (ProtobufEnvelope w) (sym h)

  opened_fault : (o : Result EnvelopeValue WireError) → message.envelope_of bytes ≡ o → (f : EnvelopeFault F) → opened_data read o ≡ Err f → HasEnvelopeFault IsMeaning HasContentsFault bytes f
  opened_fault (Ok v) eo f h = enclosed_fault v ((computes bytes).value v eo) (read v.contents) refl f h
  opened_fault (Err w) eo f h = subst (HasEnvelopeFault IsMeaning HasContentsFault bytes) (err_same {Y = EnvelopeData} (ProtobufEnvelope w) f h) (of_outer ((computes bytes).fault w eo))

  opens : (v : EnvelopeValue) → message.IsEnvelope bytes v → envelope_of read bytes ≡ enclosed_data v (read v.contents)
  opens v is = ap (opened_data read) ((computes bytes).value_converse v is)

  envelope_again : (envelope : EnvelopeData) → IsEnvelope IsMeaning HasContentsFault bytes envelope → envelope_of read bytes ≡ Ok envelope
  envelope_again envelope e =
      opens e.outer e.is
      ∙ ap (enclosed_data e.outer) (reads.value_converse e.outer.contents e.meaning e.says)
      ∙ ap (signed_data e.outer) e.signature
      ∙ (λ i. Ok (record { content = sym e.content i; key_id = sym e.key_id i; signature = envelope.signature }))

  fault_converse : (f : EnvelopeFault F) → HasEnvelopeFault IsMeaning HasContentsFault bytes f → envelope_of read bytes ≡ Err f
  fault_converse f (of_outer {w = w} h) = ap (opened_data read) ((computes bytes).fault_converse w h)
  fault_converse f (of_contents {v = v} {f = e} is h) = opens v is ∙ ap (enclosed_data v) (reads.fault_converse v.contents e h)
  fault_converse f (of_signature {v = v} {m = m} {s = s} is says h) = opens v is ∙ ap (enclosed_data v) (reads.value_converse v.contents m says) ∙ ap (signed_data v) h

  pub reads_envelope : ReadsEnvelope IsMeaning HasContentsFault (envelope_of read bytes) bytes
  reads_envelope = record {
    value = λ envelope h. opened_at (message.envelope_of bytes) refl envelope h;
    value_converse = envelope_again;
    fault = λ f h. opened_fault (message.envelope_of bytes) refl f h;
    fault_converse = fault_converse;
  }

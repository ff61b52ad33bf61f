-- What lines of hex spell is bytes, and so are the contents of the envelopes in it.
use Rattle.std.proofs.Common.{◌≡◌, ℕ, Bool, true, false, List, [], ◌∷◌, ◌++◌, take, zero, suc, Result, Ok, Err, refl, sym, subst}
use Rattle.std.specs.Prelude.{◌==◌, if◌then◌else◌}
use Rattle.std.specs.List.{AllByRecursion}
use Rattle.warg_crypto.specs.NamedBytes.{NamedBytes}
use Rattle.warg_crypto.specs.Keys.{signature_of}
use Rattle.warg_crypto.specs.declared.signing.error.SignatureParseError.{SignatureParseError}
use Rattle.warg_envelope.specs.EnvelopeData.{EnvelopeData}
use Rattle.warg_envelope.specs.Envelopes.{enclosed_data, envelope_of, opened_data, signed_data}
use Rattle.warg_audit.specs.Files.Lines.{Spell, input_of, without_return}
use Rattle.warg_protobuf.specs.Envelope as outer
use Rattle.warg_protobuf.specs.Envelope.{EnvelopeValue, IsEnvelope, IsEnvelopeOf, envelope_from, envelope_table}
use Rattle.warg_protobuf.specs.Field.{Bytes, Eight, Field, Four, Holds, IsField, IsFields, Number, Payload}
use Rattle.warg_protobuf.specs.Values.{bytes_in, field_contents, last_from}
use Rattle.warg_protobuf.specs.declared.error.WireError.{WireError}
use Rattle.warg_protobuf.proofs.Decoding.{computes}
use Rattle.warg_protobuf.proofs.EnvelopeLaws.{envelope_agrees}
use Rattle.tool_laws.specs.Plain.Plain.{AreBytes}
use Rattle.tool_laws.proofs.PlainLemmas.ByteLemmas.{decoded_bytes}

-- ---- what lines spell

pub spelled_bytes : (lines inputs : List (List ℕ)) → Spell lines inputs → AllByRecursion AreBytes inputs
spelled_bytes lines [] e = tt
spelled_bytes [] (input ∷ more) e = cc e
spelled_bytes (line ∷ lines) (input ∷ more) e =
    let first : input_of line ≡ Ok input = cc in
    let rest : Spell lines more = cc in
    (decoded_bytes (without_return line) input first, spelled_bytes lines more rest)

pub taken_bytes : (count : ℕ) (inputs : List (List ℕ)) → AllByRecursion AreBytes inputs → AllByRecursion AreBytes (take count inputs)
taken_bytes zero inputs h = tt
taken_bytes (suc count) [] h = tt
taken_bytes (suc count) (input ∷ more) h = (h.0, taken_bytes count more h.1)

-- ---- what stands in fields

front_bytes : (a b : List ℕ) → AreBytes (a ++ b) → AreBytes a
front_bytes [] b h = tt
front_bytes (x ∷ a) b h = (h.0, front_bytes a b h.1)

rest_bytes : (a b : List ℕ) → AreBytes (a ++ b) → AreBytes b
rest_bytes [] b h = h
rest_bytes (x ∷ a) b h = rest_bytes a b h.1

abbrev PayloadHasBytes : Payload → Type 0
PayloadHasBytes (Bytes b) = AreBytes b
PayloadHasBytes (Number v) = Unit {0}
PayloadHasBytes (Eight b) = Unit {0}
PayloadHasBytes (Four b) = Unit {0}

payload_bytes : (payload : Payload) (bytes : List ℕ) → Holds bytes payload → AreBytes bytes → PayloadHasBytes payload
payload_bytes (Bytes b) bytes holds h = rest_bytes holds.len b (subst AreBytes holds.parts h)
payload_bytes (Number v) bytes holds h = tt
payload_bytes (Eight b) bytes holds h = tt
payload_bytes (Four b) bytes holds h = tt

field_bytes : (f : Field) (bytes : List ℕ) → IsField bytes f → AreBytes bytes → PayloadHasBytes f.payload
field_bytes f bytes is h = payload_bytes f.payload is.rest is.holds (rest_bytes is.key is.rest (subst AreBytes is.parts h))

abbrev FieldsHaveBytes : List Field → Type 0
FieldsHaveBytes fields = AllByRecursion (λ (f : Field). PayloadHasBytes f.payload) fields

fields_bytes : (fields : List Field) (bytes : List ℕ) → IsFields bytes fields → AreBytes bytes → FieldsHaveBytes fields
fields_bytes [] bytes are h = tt
fields_bytes (f ∷ fields) bytes are h =
    let whole : AreBytes (are.0 ++ are.1) = subst AreBytes are.2 h in
    (field_bytes f are.0 are.3 (front_bytes are.0 are.1 whole), fields_bytes fields are.1 are.4 (rest_bytes are.0 are.1 whole))

of_payload : (payload : Payload) → PayloadHasBytes payload → AllByRecursion AreBytes (bytes_in payload)
of_payload (Bytes b) h = (h, tt)
of_payload (Number v) h = tt
of_payload (Eight b) h = tt
of_payload (Four b) h = tt

both : (xs ys : List (List ℕ)) → AllByRecursion AreBytes xs → AllByRecursion AreBytes ys → AllByRecursion AreBytes (xs ++ ys)
both [] ys h g = g
both (x ∷ xs) ys h g = (h.0, both xs ys h.1 g)

chosen : (b : Bool) (xs : List (List ℕ)) → AllByRecursion AreBytes xs → AllByRecursion AreBytes (if b then xs else [])
chosen true xs h = h
chosen false xs h = tt

contents_bytes : (n : ℕ) (fields : List Field) → FieldsHaveBytes fields → AllByRecursion AreBytes (field_contents n fields)
contents_bytes n [] h = tt
contents_bytes n (f ∷ fields) h =
    both (if f.number == n then bytes_in f.payload else []) (field_contents n fields)
    (chosen (f.number == n) (bytes_in f.payload) (of_payload f.payload h.0)) (contents_bytes n fields h.1)

last_is : (d : List ℕ) (xs : List (List ℕ)) → AreBytes d → AllByRecursion AreBytes xs → AreBytes (last_from d xs)
last_is d [] h g = h
last_is d (x ∷ xs) h g = last_is x xs g.0 g.1

-- ---- envelopes

outer_bytes : (bytes : List ℕ) (v : EnvelopeValue) → IsEnvelope bytes v → AreBytes bytes → AreBytes v.contents
outer_bytes bytes v is h =
    subst AreBytes (sym is.is.contents)
    (last_is [] (field_contents 1 is.fields) tt (contents_bytes 1 is.fields (fields_bytes is.fields bytes is.reads.is h)))

module _ {M F : Type 0} (read : List ℕ → Result M F) where
  signed_bytes : (v : EnvelopeValue) (signature : Result NamedBytes SignatureParseError) (e : EnvelopeData)
      → signed_data {F = F} v signature ≡ Ok e → AreBytes v.contents → AreBytes e.content
  signed_bytes v (Ok tag) e is h = let same : record { content = v.contents; key_id = v.key_id; signature = tag } ≡ e = cc in rw (← same) h
  signed_bytes v (Err fault) e is h = cc

  enclosed_bytes : (v : EnvelopeValue) (said : Result M F) (e : EnvelopeData) → enclosed_data v said ≡ Ok e → AreBytes v.contents → AreBytes e.content
  enclosed_bytes v (Ok m) e is h = signed_bytes v (signature_of v.signature) e is h
  enclosed_bytes v (Err fault) e is h = cc

  opened_bytes : (bytes : List ℕ) (found : Result EnvelopeValue WireError) (e : EnvelopeData) → outer.envelope_of bytes ≡ found
      → opened_data read found ≡ Ok e → AreBytes bytes → AreBytes e.content
  opened_bytes bytes (Ok v) e same is h =
      enclosed_bytes v (read v.contents) e is (outer_bytes bytes v ((computes envelope_table envelope_from IsEnvelopeOf envelope_agrees bytes).value v same) h)
  opened_bytes bytes (Err fault) e same is h = cc

  -- the content of the envelope that bytes are
  pub envelope_bytes : (bytes : List ℕ) (e : EnvelopeData) → envelope_of read bytes ≡ Ok e → AreBytes bytes → AreBytes e.content
  envelope_bytes bytes e is h = opened_bytes bytes (outer.envelope_of bytes) e refl is h

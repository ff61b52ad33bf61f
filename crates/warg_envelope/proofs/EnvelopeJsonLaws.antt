-- What was written of envelopes reads back.
use Rattle.std.specs.Prelude.{◌≡◌, codes, Result, Ok, refl}
use Rattle.std.proofs.Common.{sym, subst, ap, ◌∙◌}
use Rattle.serde_json.specs.Data.{Data, Members, no_members, object, put}
use Rattle.warg_crypto.specs.Json.Json.{ReadsBack}
use Rattle.warg_crypto.specs.Json.JsonTexts.{key_id_in, signature_in}
use Rattle.warg_crypto.specs.declared.json.error.JsonError.{JsonError}
use Rattle.warg_envelope.specs.EnvelopeData.{EnvelopeData}
use Rattle.warg_envelope.specs.EnvelopeJson.{AreBodyMembers, AreEquivalentSigned, SignedContents, body_in, bytes_in, published_in, signed_in}
use Rattle.warg_crypto.specs.Json.Numbers.{number_in}
use Rattle.warg_envelope.specs.declared.proto_envelope.body.PublishedProtoEnvelopeBody.{PublishedProtoEnvelopeBody}

signed_read : {A : Type 0} (reads : Data → Result A JsonError) (y : SignedContents A) (a b c : Data)
    → reads a ≡ Ok y.contents → key_id_in b ≡ Ok y.key_id → signature_in c ≡ Ok y.signature
    → signed_in reads (object (put (codes "signature") c (put (codes "keyId") b (put (codes "contents") a no_members)))) ≡ Ok y
signed_read reads y a b c f g h = rw (f, g, h) refl

-- of the members as they were put
pub signed_back : {A : Type 0} (reads : Data → Result A JsonError) (same : A → A → Type 0) (x : SignedContents A) (a b c d : Data)
    → ReadsBack reads same x.contents a → key_id_in b ≡ Ok x.key_id → signature_in c ≡ Ok x.signature
    → object (put (codes "signature") c (put (codes "keyId") b (put (codes "contents") a no_members))) ≡ d
    → ReadsBack (signed_in reads) (AreEquivalentSigned same) x d
signed_back {A} reads same x a b c d f g h is =
    let again : SignedContents A = record { contents = f.again; key_id = x.key_id; signature = x.signature } in
    record {
      again = again;
      is = subst (λ (e : Data). signed_in reads e ≡ Ok again) is (signed_read reads again a b c f.is g h);
      equal = record { contents = f.equal; key_id = refl; signature = refl };
    }

body_read : (x : EnvelopeData) (a b c : Data) → bytes_in a ≡ Ok x.content → key_id_in b ≡ Ok x.key_id → signature_in c ≡ Ok x.signature
    → body_in (object (put (codes "signature") c (put (codes "keyId") b (put (codes "contentBytes") a no_members)))) ≡ Ok x
body_read x a b c f g h = rw (f, g, h) refl

-- of the members of an envelope
pub body_back : (x : EnvelopeData) (ms : Members) (d : Data) → AreBodyMembers x ms → object ms ≡ d → ReadsBack body_in (λ a b. a ≡ b) x d
body_back x ms d own is = record {
  again = x;
  is = subst (λ (e : Data). body_in e ≡ Ok x) (ap object (sym own.are) ∙ is)
      (body_read x own.bytes own.key_id own.signature own.bytes_read own.key_id_read own.signature_read);
  equal = refl;
}

published_read : (x : PublishedProtoEnvelopeBody) (a b c n : Data) → bytes_in a ≡ Ok x.envelope.content → key_id_in b ≡ Ok x.envelope.key_id
    → signature_in c ≡ Ok x.envelope.signature → number_in n ≡ Ok x.registry_index
    → published_in (object (put (codes "registryIndex") n (put (codes "signature") c (put (codes "keyId") b (put (codes "contentBytes") a no_members))))) ≡ Ok x
published_read x a b c n f g h k = rw (f, g, h, k) refl

-- of the members of an envelope, with its index
pub published_back : (x : PublishedProtoEnvelopeBody) (ms : Members) (n d : Data) → AreBodyMembers x.envelope ms → number_in n ≡ Ok x.registry_index
    → object (put (codes "registryIndex") n ms) ≡ d → ReadsBack published_in (λ a b. a ≡ b) x d
published_back x ms n d own k is = record {
  again = x;
  is = subst (λ (e : Data). published_in e ≡ Ok x) (ap (λ (ns : Members). object (put (codes "registryIndex") n ns)) (sym own.are) ∙ is)
      (published_read x own.bytes own.key_id own.signature n own.bytes_read own.key_id_read own.signature_read k);
  equal = refl;
}

-- The versions of signed contents stand in what is written of the envelope, and read back where they were read.
use Rattle.std.specs.Prelude.{◌≡◌, List, codes, Some, Result, Ok, refl}
use Rattle.std.proofs.Common.{◌∙◌, ap, subst}
use Rattle.serde_json.specs.Data.{Data, Members, no_members, object, put, string}
use Rattle.serde_json.specs.Find.{get_member}
use Rattle.warg_crypto.specs.Json.Json.{AreReadBack, Version, member_in, json_result}
use Rattle.warg_crypto.specs.Json.JsonTexts.{key_id_in, signature_in}
use Rattle.warg_crypto.specs.Json.Members.{put_json}
use Rattle.warg_crypto.specs.NamedBytes.{named_bytes_text}
use Rattle.warg_crypto.specs.Json.JsonLaws.{bind_ok, ok_same}
use Rattle.warg_crypto.specs.Json.Within.{AreWithin}
use Rattle.warg_crypto.specs.Json.WithinLaws.{member_within}
use Rattle.warg_crypto.specs.declared.json.error.JsonError.{JsonError}
use Rattle.warg_envelope.specs.EnvelopeJson.{SignedContents, signed_in, signed_json}

module _ {A : Type 0} (writes : A → Result Data JsonError) (versions : A → List Version)
    (within : (x : A) (d : Data) → writes x ≡ Ok d → AreWithin (versions x) d) where
  pub signed_within : (e : SignedContents A) (d : Data) → signed_json writes e ≡ Ok d → AreWithin (versions e.contents) d
  signed_within e d is =
      let id = string e.key_id in
      let tag = string (named_bytes_text e.signature) in
      let w = bind_ok (put_json writes (codes "contents") e.contents no_members)
      (λ ms. json_result (object (put (codes "signature") tag (put (codes "keyId") id ms)))) d is in
      let inner = bind_ok (writes e.contents) (λ x. json_result (put (codes "contents") x no_members)) w.0 w.1 in
      let own : put (codes "contents") inner.0 no_members ≡ w.0 = ok_same (put (codes "contents") inner.0 no_members) w.0 inner.2 in
      let all : Members = put (codes "signature") tag (put (codes "keyId") id (put (codes "contents") inner.0 no_members)) in
      let whole : object all ≡ d = ap (λ ms. object (put (codes "signature") tag (put (codes "keyId") id ms))) own
      ∙ ok_same (object (put (codes "signature") tag (put (codes "keyId") id w.0))) d w.2 in
      let found : get_member (codes "contents") all ≡ Some inner.0 = refl in
      subst (λ (x : Data). AreWithin (versions e.contents) x) whole
      (member_within (versions e.contents) (codes "contents") inner.0 all found (within e.contents inner.0 inner.1))

module _ {A : Type 0} (reads : Data → Result A JsonError) (versions : A → List Version)
    (back : (x : A) (d : Data) → reads d ≡ Ok x → AreReadBack (versions x)) where
  pub signed_versions : (e : SignedContents A) (d : Data) → signed_in reads d ≡ Ok e → AreReadBack (versions e.contents)
  signed_versions e d is =
      let w1 = bind_ok (member_in (codes "contents") d) _ e is in
      let w2 = bind_ok (reads w1.0) _ e w1.2 in
      let w3 = bind_ok (member_in (codes "keyId") d) _ e w2.2 in
      let w4 = bind_ok (key_id_in w3.0) _ e w3.2 in
      let w5 = bind_ok (member_in (codes "signature") d) _ e w4.2 in
      let w6 = bind_ok (signature_in w5.0) _ e w5.2 in
      subst (λ (x : A). AreReadBack (versions x)) (ap (λ (s : SignedContents A). s.contents) (ok_same _ e w6.2))
      (back w2.0 w1.0 w2.1)

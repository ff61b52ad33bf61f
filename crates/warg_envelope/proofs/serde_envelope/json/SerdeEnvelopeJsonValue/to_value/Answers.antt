use Rattle.std.proofs.Common.{◌≡◌, sym, ◌∙◌, rules, codes}
use Rattle.serde_json.specs.Data.{no_members, object, put}
use Rattle.serde_json.specs.View.{members_view, view}
use Rattle.warg_crypto.specs.Json.JsonTexts.{key_id_in, signature_in}
use Rattle.warg_crypto.specs.Json.MemberLaws.{read_again}
use Rattle.warg_envelope.specs.EnvelopeJson.{SignedContents}
use Rattle.warg_envelope.proofs.EnvelopeJsonLaws.{signed_back}
use Rattle.warg_envelope.proofs.serde_envelope.json.SerdeEnvelopeJsonValue.to_value.Goals as goal

pub returns-clause-back : goal.returns-clause-back
returns-clause-back g c = λ own.
    let a = c.in_ok-put_value.ensures.back own in
    let b = c.in_ok-put_value-2.ensures.back tt in
    let s = c.in_ok-put_value-3.ensures.back tt in
    let empty : members_view c.new-map.result.entries ≡ no_members = search rules in
    let whole : object (put (codes "signature") s.0 (put (codes "keyId") b.0 (put (codes "contents") a.0 no_members))) ≡ view c.object_value.result =
    (λ i. object (put (codes "signature") s.0 (put (codes "keyId") b.0 (put (codes "contents") a.0 (sym empty i)))))
    ∙ (λ i. object (put (codes "signature") s.0 (put (codes "keyId") b.0 (sym a.2 i))))
    ∙ (λ i. object (put (codes "signature") s.0 (sym b.2 i)))
    ∙ (λ i. object (sym s.2 i))
    ∙ sym c.object_value.ensures in
    let signed : SignedContents g.C.JsonValue.Plain = record {
      contents = g.C.JsonValue.plain c.args.self.now.contents;
      key_id = c.args.self.now.key_id;
      signature = c.args.self.now.signature;
    } in
    let read = signed_back g.C.JsonValue.reads g.C.JsonValue.equivalent signed a.0 b.0 s.0 _
    (record { again = a.1.again; is = a.1.is; equal = a.1.equal })
    (read_again key_id_in signed.key_id b.0 (record { again = b.1.again; is = b.1.is; equal = b.1.equal }))
    (read_again signature_in signed.signature s.0 (record { again = s.1.again; is = s.1.is; equal = s.1.equal }))
    whole in
    record { again = read.again; is = read.is; equal = read.equal }

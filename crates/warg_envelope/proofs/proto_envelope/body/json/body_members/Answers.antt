use Rattle.std.proofs.Common.{◌≡◌, ◌∙◌, Ok, rules, codes, subst, ap}
use Rattle.serde_json.specs.Data.{no_members, put}
use Rattle.serde_json.specs.View.{members_view, view}
use Rattle.warg_crypto.specs.Json.JsonTexts.{key_id_in, signature_in}
use Rattle.warg_crypto.specs.Json.MemberLaws.{read_again}
use Rattle.warg_envelope.specs.EnvelopeData.{EnvelopeData}
use Rattle.warg_envelope.specs.EnvelopeJson.{AreBodyMembers}
use Rattle.warg_envelope.proofs.proto_envelope.body.json.body_members.Goals as goal

pub returns-clause-back : goal.returns-clause-back
returns-clause-back c =
    let k = c.in_ok-put_value.ensures.back tt in
    let s = c.in_ok-put_value-2.ensures.back tt in
    let empty : members_view c.new-map.result.entries ≡ no_members = search rules in
    let bytes = view c.in_ok-bytes.bytes in
    let inner : EnvelopeData = record {
      content = c.body.inside.content_bytes.items;
      key_id = c.body.inside.key_id;
      signature = c.body.inside.signature;
    } in
    let are : AreBodyMembers inner (members_view c.put_value-2.new.map.entries) = record {
      bytes = bytes;
      key_id = k.0;
      signature = s.0;
      are = s.2
          ∙ (λ i. put (codes "signature") s.0 (k.2 i))
          ∙ (λ i. put (codes "signature") s.0 (put (codes "keyId") k.0 (c.in_ok-put_member.ensures.ok i)))
          ∙ (λ i. put (codes "signature") s.0 (put (codes "keyId") k.0 (put (codes "contentBytes") bytes (empty i))));
      bytes_read = c.in_ok-bytes.ensures.back ∙ ap Ok c.as_slice.ensures.value;
      key_id_read = read_again key_id_in inner.key_id k.0 (record { again = k.1.again; is = k.1.is; equal = k.1.equal });
      signature_read = read_again signature_in inner.signature s.0 (record { again = s.1.again; is = s.1.is; equal = s.1.equal });
    } in
    subst (λ (e : EnvelopeData). AreBodyMembers e (members_view c.put_value-2.new.map.entries)) c.body.view_is are

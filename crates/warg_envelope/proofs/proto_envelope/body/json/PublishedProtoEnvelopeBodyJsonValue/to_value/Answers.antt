use Rattle.std.proofs.Common.{◌≡◌, sym, ◌∙◌, codes}
use Rattle.serde_json.specs.Data.{object, put}
use Rattle.serde_json.specs.View.{members_view, view}
use Rattle.warg_crypto.specs.Json.MemberLaws.{read_again}
use Rattle.warg_crypto.specs.Json.Numbers.{number_in}
use Rattle.warg_envelope.proofs.EnvelopeJsonLaws.{published_back}
use Rattle.warg_envelope.proofs.proto_envelope.body.json.PublishedProtoEnvelopeBodyJsonValue.to_value.Goals as goal

pub returns-clause-back : goal.returns-clause-back
returns-clause-back c =
    let n = c.in_ok-put_value.ensures.back tt in
    let whole : object (put (codes "registryIndex") n.0 (members_view c.in_ok-map.map.entries)) ≡ view c.object_value.result =
    (λ i. object (sym n.2 i)) ∙ sym c.object_value.ensures in
    let read = published_back c.args.self.now _ n.0 _ c.in_ok-map.ensures.back
    (read_again number_in c.args.self.now.registry_index n.0 (record { again = n.1.again; is = n.1.is; equal = n.1.equal }))
    whole in
    λ _. record { again = read.again; is = read.is; equal = read.equal }

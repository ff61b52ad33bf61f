use Rattle.std.proofs.Common.{sym}
use Rattle.warg_envelope.proofs.EnvelopeJsonLaws.{body_back}
use Rattle.warg_envelope.proofs.proto_envelope.body.json.ProtoEnvelopeBodyJsonValue.to_value.Goals as goal

pub returns-clause-back : goal.returns-clause-back
returns-clause-back c =
    let read = body_back c.args.self.now _ _ c.in_ok-body_members.ensures.back (sym c.object_value.ensures) in
    λ _. record { again = read.again; is = read.is; equal = read.equal }

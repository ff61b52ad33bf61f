use Rattle.std.proofs.Common.{◌≡◌, sym, ◌∙◌, rules, codes}
use Rattle.serde_json.specs.Data.{no_members, object, put}
use Rattle.serde_json.specs.View.{members_view, view}
use Rattle.warg_crypto.specs.Json.JsonTexts.{hash_in}
use Rattle.warg_crypto.specs.Json.MemberLaws.{read_again}
use Rattle.warg_crypto.specs.Json.Numbers.{number_in}
use Rattle.warg_registry.proofs.RegistryJsonLaws.{timestamped_back}
use Rattle.warg_registry.proofs.json.TimestampedCheckpointJsonValue.to_value.Goals as goal

pub returns-clause-back : goal.returns-clause-back
returns-clause-back c =
    let a = c.in_ok-put_value.ensures.back tt in
    let b = c.in_ok-put_value-2.ensures.back tt in
    let m = c.in_ok-put_value-3.ensures.back tt in
    let t = c.in_ok-put_value-4.ensures.back tt in
    let empty : members_view c.new-map.result.entries ≡ no_members = search rules in
    let whole : object (put (codes "timestamp") t.0 (put (codes "mapRoot") m.0 (put (codes "logLength") b.0 (put (codes "logRoot") a.0 no_members)))) ≡ view c.object_value.result =
    (λ i. object (put (codes "timestamp") t.0 (put (codes "mapRoot") m.0 (put (codes "logLength") b.0 (put (codes "logRoot") a.0 (sym empty i))))))
    ∙ (λ i. object (put (codes "timestamp") t.0 (put (codes "mapRoot") m.0 (put (codes "logLength") b.0 (sym a.2 i)))))
    ∙ (λ i. object (put (codes "timestamp") t.0 (put (codes "mapRoot") m.0 (sym b.2 i))))
    ∙ (λ i. object (put (codes "timestamp") t.0 (sym m.2 i)))
    ∙ (λ i. object (sym t.2 i))
    ∙ sym c.object_value.ensures in
    let read = timestamped_back c.args.self.now a.0 b.0 m.0 t.0 _
    (read_again hash_in c.args.self.now.checkpoint.log_root a.0 (record { again = a.1.again; is = a.1.is; equal = a.1.equal }))
    (read_again number_in c.args.self.now.checkpoint.log_length b.0 (record { again = b.1.again; is = b.1.is; equal = b.1.equal }))
    (read_again hash_in c.args.self.now.checkpoint.map_root m.0 (record { again = m.1.again; is = m.1.is; equal = m.1.equal }))
    (read_again number_in c.args.self.now.timestamp t.0 (record { again = t.1.again; is = t.1.is; equal = t.1.equal }))
    whole in
    λ _. record { again = read.again; is = read.is; equal = read.equal }

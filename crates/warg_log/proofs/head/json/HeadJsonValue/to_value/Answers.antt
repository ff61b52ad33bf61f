use Rattle.std.proofs.Common.{◌≡◌, sym, ◌∙◌, rules, codes}
use Rattle.serde_json.specs.Data.{no_members, object, put}
use Rattle.serde_json.specs.View.{members_view, view}
use Rattle.warg_crypto.specs.Time.TimeJson.{time_in}
use Rattle.warg_crypto.specs.Json.MemberLaws.{read_again}
use Rattle.warg_crypto.specs.Json.Members.{put_some}
use Rattle.warg_log_records.specs.RecordIdJson.{record_id_in}
use Rattle.warg_log.proofs.HeadJsonLaws.{head_back}
use Rattle.warg_log.proofs.head.json.HeadJsonValue.to_value.Goals as goal

pub returns-clause-back : goal.returns-clause-back
returns-clause-back c =
    let a = c.in_ok-put_value.ensures.back tt in
    let b = c.in_ok-put_value-2.ensures.back tt in
    let v = c.in_ok-put_version.ensures.back in
    let empty : members_view c.new-map.result.entries ≡ no_members = search rules in
    let whole : object (put_some (codes "version") v.0 (put (codes "timestamp") b.0 (put (codes "digest") a.0 no_members))) ≡ view c.object_value.result =
    (λ i. object (put_some (codes "version") v.0 (put (codes "timestamp") b.0 (put (codes "digest") a.0 (sym empty i)))))
    ∙ (λ i. object (put_some (codes "version") v.0 (put (codes "timestamp") b.0 (sym a.2 i))))
    ∙ (λ i. object (put_some (codes "version") v.0 (sym b.2 i)))
    ∙ (λ i. object (sym v.2 i))
    ∙ sym c.object_value.ensures in
    let read = head_back c.args.self.now a.0 b.0 v.0 _
    (read_again record_id_in c.args.self.now.digest a.0 (record { again = a.1.again; is = a.1.is; equal = a.1.equal }))
    (read_again time_in c.args.self.now.timestamp b.0 (record { again = b.1.again; is = b.1.is; equal = b.1.equal }))
    v.1 whole in
    λ _. record { again = read.again; is = read.is; equal = read.equal }

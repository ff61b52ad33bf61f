use Rattle.std.proofs.Common.{◌≡◌, sym, ◌∙◌, rules, codes}
use Rattle.serde_json.specs.Data.{no_members, object, put}
use Rattle.serde_json.specs.View.{members_view, view}
use Rattle.warg_crypto.specs.Json.JsonTexts.{key_id_in}
use Rattle.warg_crypto.specs.Time.TimeJson.{time_in}
use Rattle.warg_crypto.specs.Json.MemberLaws.{read_again}
use Rattle.warg_log_records.specs.RecordIdJson.{record_id_in}
use Rattle.warg_package_log.specs.ReleaseMap.{release_view}
use Rattle.warg_package_log.specs.ReleaseJson.{release_state_in}
use Rattle.warg_package_log.proofs.ReleaseJsonLaws.{release_back}
use Rattle.warg_package_log.proofs.release.json.ReleaseJsonValue.to_value.Goals as goal

pub returns-clause-back : goal.returns-clause-back
returns-clause-back c = λ own.
    let a = c.in_ok-put_value.ensures.back tt in
    let version = view c.in_ok-version.version in
    let b = c.in_ok-put_value-2.ensures.back tt in
    let t = c.in_ok-put_value-3.ensures.back tt in
    let s = c.in_ok-put_value-4.ensures.back tt in
    let empty : members_view c.new-map.result.entries ≡ no_members = search rules in
    let whole : object (put (codes "state") s.0 (put (codes "timestamp") t.0 (put (codes "by") b.0 (put (codes "version") version (put (codes "recordId") a.0 no_members))))) ≡ view c.object_value.result =
    (λ i. object (put (codes "state") s.0 (put (codes "timestamp") t.0 (put (codes "by") b.0 (put (codes "version") version (put (codes "recordId") a.0 (sym empty i)))))))
    ∙ (λ i. object (put (codes "state") s.0 (put (codes "timestamp") t.0 (put (codes "by") b.0 (put (codes "version") version (sym a.2 i))))))
    ∙ (λ i. object (put (codes "state") s.0 (put (codes "timestamp") t.0 (put (codes "by") b.0 (sym c.in_ok-put_member.ensures.ok i)))))
    ∙ (λ i. object (put (codes "state") s.0 (put (codes "timestamp") t.0 (sym b.2 i))))
    ∙ (λ i. object (put (codes "state") s.0 (sym t.2 i)))
    ∙ (λ i. object (sym s.2 i))
    ∙ sym c.object_value.ensures in
    let release = release_view c.args.self.now in
    let read = release_back release a.0 version b.0 t.0 s.0 _
    (read_again record_id_in release.record_id a.0 (record { again = a.1.again; is = a.1.is; equal = a.1.equal }))
    (c.in_ok-version.ensures.back own)
    (read_again key_id_in release.by b.0 (record { again = b.1.again; is = b.1.is; equal = b.1.equal }))
    (read_again time_in release.timestamp t.0 (record { again = t.1.again; is = t.1.is; equal = t.1.equal }))
    (read_again release_state_in release.state s.0 (record { again = s.1.again; is = s.1.is; equal = s.1.equal }))
    whole in
    record { again = read.again; is = read.is; equal = read.equal }

use Rattle.std.proofs.Common.{◌≡◌, sym, ◌∙◌, codes}
use Rattle.serde_json.specs.Data.{object, put}
use Rattle.serde_json.specs.View.{members_view, view}
use Rattle.warg_crypto.specs.Json.JsonTexts.{key_id_in}
use Rattle.warg_crypto.specs.Time.TimeJson.{time_in}
use Rattle.warg_crypto.specs.Json.MemberLaws.{read_again}
use Rattle.warg_crypto.specs.Json.JsonLaws.{ok_same}
use Rattle.warg_package_log.specs.ReleaseJson.{status_member}
use Rattle.warg_package_log.proofs.ReleaseJsonLaws.{yanked_back}
use Rattle.warg_package_log.proofs.release.json.yanked_value.Goals as goal

pub returns-clause-back : goal.returns-clause-back
returns-clause-back c =
    let a = c.in_ok-put_value.ensures.back tt in
    let t = c.in_ok-put_value-2.ensures.back tt in
    let first : status_member (codes "yanked") ≡ members_view c.in_ok-map.map.entries = ok_same _ _ c.in_ok-map.ensures in
    let whole : object (put (codes "timestamp") t.0 (put (codes "by") a.0 (status_member (codes "yanked")))) ≡ view c.object_value.result =
    (λ i. object (put (codes "timestamp") t.0 (put (codes "by") a.0 (first i))))
    ∙ (λ i. object (put (codes "timestamp") t.0 (sym a.2 i)))
    ∙ (λ i. object (sym t.2 i))
    ∙ sym c.object_value.ensures in
    yanked_back c.args.by.now c.args.timestamp.now a.0 t.0 _
    (read_again key_id_in c.args.by.now a.0 (record { again = a.1.again; is = a.1.is; equal = a.1.equal }))
    (read_again time_in c.args.timestamp.now t.0 (record { again = t.1.again; is = t.1.is; equal = t.1.equal })) whole

use Rattle.std.proofs.Common.{◌≡◌, sym, ◌∙◌, codes}
use Rattle.serde_json.specs.Data.{object, put}
use Rattle.serde_json.specs.View.{members_view, view}
use Rattle.warg_crypto.specs.Json.JsonTexts.{hash_in}
use Rattle.warg_crypto.specs.Json.MemberLaws.{read_again}
use Rattle.warg_crypto.specs.Json.JsonLaws.{ok_same}
use Rattle.warg_package_log.specs.ReleaseJson.{status_member}
use Rattle.warg_package_log.proofs.ReleaseJsonLaws.{released_back}
use Rattle.warg_package_log.proofs.release.json.released_value.Goals as goal

pub returns-clause-back : goal.returns-clause-back
returns-clause-back c =
    let a = c.in_ok-put_value.ensures.back tt in
    let first : status_member (codes "released") ≡ members_view c.in_ok-map.map.entries = ok_same _ _ c.in_ok-map.ensures in
    let whole : object (put (codes "content") a.0 (status_member (codes "released"))) ≡ view c.object_value.result =
    (λ i. object (put (codes "content") a.0 (first i))) ∙ (λ i. object (sym a.2 i)) ∙ sym c.object_value.ensures in
    released_back c.args.content.now a.0 _
    (read_again hash_in c.args.content.now a.0 (record { again = a.1.again; is = a.1.is; equal = a.1.equal })) whole

use Rattle.std.proofs.Common.{◌≡◌, sym, ◌∙◌, rules, codes}
use Rattle.serde_json.specs.Data.{no_members, object, put}
use Rattle.serde_json.specs.View.{members_view, view}
use Rattle.warg_crypto.specs.Json.MemberLaws.{read_again}
use Rattle.warg_log_records.specs.RecordIdJson.{record_id_in}
use Rattle.warg_registry.specs.RegistryJson.{log_id_in}
use Rattle.warg_registry.proofs.RegistryJsonLaws.{log_leaf_back}
use Rattle.warg_registry.proofs.json.LogLeafJsonValue.to_value.Goals as goal

pub returns-clause-back : goal.returns-clause-back
returns-clause-back c =
    let a = c.in_ok-put_value.ensures.back tt in
    let b = c.in_ok-put_value-2.ensures.back tt in
    let empty : members_view c.new-map.result.entries ≡ no_members = search rules in
    let whole : object (put (codes "recordId") b.0 (put (codes "logId") a.0 no_members)) ≡ view c.object_value.result =
    (λ i. object (put (codes "recordId") b.0 (put (codes "logId") a.0 (sym empty i))))
    ∙ (λ i. object (put (codes "recordId") b.0 (sym a.2 i)))
    ∙ (λ i. object (sym b.2 i))
    ∙ sym c.object_value.ensures in
    let read = log_leaf_back c.args.self.now a.0 b.0 _
    (read_again log_id_in c.args.self.now.log_id a.0 (record { again = a.1.again; is = a.1.is; equal = a.1.equal }))
    (read_again record_id_in c.args.self.now.record_id b.0 (record { again = b.1.again; is = b.1.is; equal = b.1.equal }))
    whole in
    λ _. record { again = read.again; is = read.is; equal = read.equal }

use Rattle.serde_json.specs.View.{members_view}
use Rattle.warg_log.proofs.HeadJsonLaws.{version_back}
use Rattle.warg_log.proofs.head.json.put_version.Goals as goal

pub returns-clause-back : goal.returns-clause-back
returns-clause-back c = version_back c.put_value.result c.args.version (members_view c.args.map.now.entries) (members_view c.put_value.new.map.entries) (c.put_value.ensures.back tt)

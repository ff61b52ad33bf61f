use Rattle.std.proofs.Common.{codes}
use Rattle.serde_json.specs.View.{members_view}
use Rattle.warg_log.specs.HeadJson.{head_in, head_json}
use Rattle.warg_log.proofs.SavedHead.{put_back}
use Rattle.warg_log.proofs.head.member.put_head.Goals as goal

pub returns-clause-back : goal.returns-clause-back
returns-clause-back c =
    put_back head_json head_in (codes "head") c.in-Some.head c.args.head.now c.put_value.result
    (members_view c.args.members.now.entries) (members_view c.put_value.new.map.entries) c.in-Some.is c.put_value.ensures.written (c.put_value.ensures.back tt)

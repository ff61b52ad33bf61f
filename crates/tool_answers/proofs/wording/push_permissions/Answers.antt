use Rattle.std.proofs.Common.{arith, string_bytes}
use Rattle.tool_answers.proofs.ShownWordLemmas.{after_spaces_more}
use Rattle.tool_answers.proofs.wording.push_permissions.Goals as goal

pub loop-permission-preserved : goal.loop-permission-preserved
loop-permission-preserved g c =
    after_spaces_more g.P.LogPermission.text_of c.args.permissions.now c.loop-permission.permission-index _ (string_bytes c.args.text.now) _ _ _
    (omega arith) c.permission-item.is c.loop-permission.invariant c.in_ok-push_behind_space.ensures c.as_text.ensures

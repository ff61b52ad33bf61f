use Rattle.std.proofs.Common.{ℕ, List, ap, ◌∙◌}
use Rattle.std.proofs.lemmas.Result.{IfOk-weaker}
use Rattle.tool_layout.specs.Members.Objects.{object_text}
use Rattle.tool_layout.proofs.members.object.message_object.Goals as goal

pub returns : goal.returns
returns c =
    IfOk-weaker c.object.result _ _
    (λ text is. is ∙ ap (λ (members : List ℕ). object_text c.args.command.now members c.args.status) (c.as_str.ensures.value ∙ c.in_ok-members.ensures))
    c.object.ensures

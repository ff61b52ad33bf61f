use Rattle.std.proofs.Common.{◌∙◌}
use Rattle.warg_saved_states.proofs.TextLaws.{put_text}
use Rattle.warg_saved_states.proofs.text.MemberTexts.put.Goals as goal

pub returns-clause-ok : goal.returns-clause-ok
returns-clause-ok c = λ d ms is are.
    rw c.in_ok-insert.ensures.entries (put_text c.self.inside.texts.entries c.args.name c.args.value d ms is (c.self.view_is ∙ are))

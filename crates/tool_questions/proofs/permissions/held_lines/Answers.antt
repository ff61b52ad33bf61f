use Rattle.std.proofs.Common.{◌++◌, ◌∙◌, ap, refl}
use Rattle.tool_questions.proofs.TextLemmas.{held_lines, held_lines-more, held_lines-end}
use Rattle.tool_questions.proofs.permissions.held_lines.Goals as goal

pub loop-permission-preserved : goal.loop-permission-preserved
loop-permission-preserved g c =
    let text_of = g.L.ToolLog.text_of in
    let held = g.L.Validator.holds (g.L.Validator.view c.args.state.now) c.args.key_id.now in
    let later = c.in-Some.later.now in
    ap (λ text. text ++ held_lines text_of held later) c.in_ok-append_held.ensures
    ∙ held_lines-more text_of held _ _ _ c.in-Some.permission.now c.loop-permission.rest.now later c.in-Some.ensures.cases.0 refl
    c.loop-permission.invariant

pub returns : goal.returns
returns g c =
    held_lines-end g.L.ToolLog.text_of (g.L.Validator.holds (g.L.Validator.view c.args.state.now) c.args.key_id.now) _
    c.loop-permission.rest.now c.args.permissions.now c.in_default.ensures.cases c.loop-permission.invariant

use Rattle.std.proofs.Common.{sym, ◌∙◌}
use Rattle.tool_changes.proofs.AddedLineLemmas.{any_text, line_at}
use Rattle.tool_changes.proofs.added_lines.is_among.Goals as goal

pub returns-in-Some : goal.returns-in-Some
returns-in-Some c =
    let found = c.in-Some.ensures.lookup in
    sym (line_at c.args.line.now c.args.lines.now c.args.place c.in-Some.there.now found.3.0 found.1 (sym c.if-eq.ensures))

pub returns-in_default : goal.returns-in_default
returns-in_default c = c.contains.ensures.value ∙ any_text c.args.line.now c.args.lines.now

use Rattle.std.proofs.Common.{ap, map, ◌∙◌, rules}
use Rattle.std.proofs.lemmas.Iterator.Consumers.{YieldsList-end}
use Rattle.std.proofs.lemmas.Iterator.Splits.{YieldsList-from_lines}
use Rattle.warg_printable.specs.Lines.{with_ends}
use Rattle.tool_layout.specs.Colours.{painted_line}
use Rattle.tool_layout.proofs.LineLemmas.{lines-more}
use Rattle.tool_layout.proofs.colour.painted.Goals as goal

pub loop-line-preserved : goal.loop-line-preserved
loop-line-preserved c =
    lines-more painted_line c.loop-line.yielded c.in-Some.line _ _ c.loop-line.invariant c.in_ok-push_painted.ensures

pub returns : goal.returns
returns c =
    let end = YieldsList-end (YieldsList-from_lines c.args.text.now (search rules)) c.loop-line.yielded _ c.loop-line.yielded_by _ _ c.in-None.is c.next.ensures.steps in
    c.loop-line.invariant ∙ ap (λ ls. with_ends (map painted_line ls)) end.0

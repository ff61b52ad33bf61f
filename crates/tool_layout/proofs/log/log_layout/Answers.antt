use Rattle.std.proofs.Common.{ℕ, List, ap, map, ◌∙◌, rules}
use Rattle.std.specs.Str.Lines.{lines}
use Rattle.std.proofs.lemmas.Iterator.Consumers.{YieldsList-end}
use Rattle.std.proofs.lemmas.Iterator.Splits.{YieldsList-from_lines}
use Rattle.warg_printable.specs.Lines.{with_ends}
use Rattle.tool_layout.specs.Layouts.{laid_line}
use Rattle.tool_layout.specs.Logs.{padded}
use Rattle.tool_layout.proofs.LineLemmas.{lines-more}
use Rattle.tool_layout.proofs.log.log_layout.Goals as goal

pub loop-line-preserved : goal.loop-line-preserved
loop-line-preserved c =
    lines-more (λ (line : List ℕ). laid_line c.args.look.now (padded c.widest-width.result line)) c.loop-line.yielded c.in-Some.line _ _
    c.loop-line.invariant c.in_ok-push_log_line.ensures

pub returns : goal.returns
returns c =
    let end = YieldsList-end (YieldsList-from_lines c.args.text.now (search rules)) c.loop-line.yielded _ c.loop-line.yielded_by _ _ c.in-None.is c.next.ensures.steps in
    c.loop-line.invariant
    ∙ ap (λ (ls : List (List ℕ)). with_ends (map (λ (line : List ℕ). laid_line c.args.look.now (padded c.widest-width.result line)) ls)) end.0
    ∙ ap (λ (n : ℕ). with_ends (map (λ (line : List ℕ). laid_line c.args.look.now (padded n line)) (lines c.args.text.now))) c.widest-width.ensures

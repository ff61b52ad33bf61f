use Rattle.std.proofs.Common.{◌++◌, ap, ◌∙◌, rules, string_bytes}
use Rattle.std.proofs.lemmas.Iterator.Consumers.{YieldsList-end}
use Rattle.std.proofs.lemmas.Iterator.Splits.{YieldsList-from_lines}
use Rattle.tool_changes.specs.JsonLines.{line_objects}
use Rattle.tool_changes.proofs.JsonLemmas.{objects_more}
use Rattle.tool_changes.proofs.json.line_objects.Goals as goal

pub loop-line-preserved : goal.loop-line-preserved
loop-line-preserved c =
    objects_more c.args.command.now c.args.status c.loop-line.yielded c.in-Some.line _ _ c.loop-line.invariant
    (c.in_ok-push_str.ensures.bytes
    ∙ ap (λ t. string_bytes c.loop-line.objects ++ t) (c.as_str.ensures.value ∙ c.in_ok-object.ensures))

pub returns : goal.returns
returns c =
    let end = YieldsList-end (YieldsList-from_lines c.args.text.now (search rules)) c.loop-line.yielded _ c.loop-line.yielded_by _ _ c.in-None.is c.next.ensures.steps in
    c.loop-line.invariant ∙ ap (line_objects c.args.command.now c.args.status) end.0

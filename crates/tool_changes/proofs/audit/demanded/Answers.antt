use Rattle.std.proofs.Common.{ap, ◌∙◌, string_bytes}
use Rattle.std.specs.Option.{option_map}
use Rattle.tool_changes.specs.Audits.{unmet}
use Rattle.tool_changes.proofs.DemandLemmas.{line_or_same}
use Rattle.tool_changes.proofs.audit.demanded.Goals as goal

pub returns : goal.returns
returns g c =
    line_or_same _ (option_map string_bytes c.in_ok-line.line) _ c.line_or_verdict.result
    (c.in_ok-line.ensures ∙ ap (unmet c.args.demands.now c.args.count) c.head_digest.ensures) c.line_or_verdict.ensures

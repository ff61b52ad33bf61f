use Rattle.std.proofs.Common.{rules, tests}
use Rattle.std.proofs.lemmas.Iterator.Search.{any_from_yields_List}
use Rattle.std.proofs.lemmas.Iterator.Splits.{YieldsList-from_lines}
use Rattle.tool_changes.specs.ManyAudits.{is_path}
use Rattle.tool_changes.proofs.many_audits.has_path.Goals as goal

pub returns : goal.returns
returns c =
    any_from_yields_List is_path _ _ _ c.any.ensures.ran (YieldsList-from_lines c.args.paths.now (search rules))
    (λ x b q k. search (rules, tests))

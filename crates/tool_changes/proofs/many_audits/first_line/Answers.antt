use Rattle.std.proofs.Common.{◌∙◌, ap, refl, rules, ℕ, List, Bor}
use Rattle.std.proofs.lemmas.Iterator.Splits.{YieldsList-from_lines}
use Rattle.std.specs.Str.Iter.{lines_steps}
use Rattle.std.specs.Str.Lines.{lines}
use Rattle.tool_changes.proofs.ManyAuditLemmas.{first_given}
use Rattle.tool_changes.proofs.many_audits.first_line.Goals as goal

pub returns : goal.returns
returns c =
    ap (λ (it : Bor (List ℕ)). it.now) c.unwrap_or.ensures
    ∙ first_given lines_steps _ _ (lines c.args.text.now) c.next.result _ (YieldsList-from_lines c.args.text.now (search rules))
    c.next.ensures.steps refl

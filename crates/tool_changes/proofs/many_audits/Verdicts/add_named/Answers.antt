use Rattle.std.proofs.Common.{arith, Some, None}
use Rattle.std.proofs.lemmas.Str.Pattern.{strip_prefix_char}
use Rattle.tool_changes.specs.ManyAudits.{itself, listed}
use Rattle.tool_changes.proofs.ManyAuditLemmas.{on_ok_to}
use Rattle.tool_changes.proofs.many_audits.Verdicts.add_named.Goals as goal

pub returns-in-Some-clause-added : goal.returns-in-Some-clause-added
returns-in-Some-clause-added g c =
    on_ok_to (λ it. listed c.in-Some.list.now
    (strip_prefix_char 64 c.args.word.now (Some c.in-Some.list) c.in-Some.ensures.cases (omega arith)) it)
    c.add_listed.result c.add_listed.ensures.added

pub returns-in_ok-add-in-None-clause-added : goal.returns-in_ok-add-in-None-clause-added
returns-in_ok-add-in-None-clause-added g c =
    itself (strip_prefix_char 64 c.args.word.now None c.in-None.ensures.cases (omega arith)) c.in_ok-add-in-None.ensures.added

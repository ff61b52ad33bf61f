use Rattle.std.proofs.Common.{◌++◌, ap, ◌∙◌, string_bytes}
use Rattle.tool_changes.proofs.ManyAuditLemmas.{printed_is}
use Rattle.tool_changes.proofs.many_audits.Verdicts.add_none.Goals as goal

pub returns : goal.returns
returns g c =
    printed_is (string_bytes c.push_str.new.self) _ c.max-all.result _
    (c.in_ok-push_str.ensures.bytes
    ∙ ap (λ t. string_bytes c.args.all.now.text ++ t) (c.as_str.ensures.value ∙ c.in_ok-line.ensures)) c.max-all.ensures

use Rattle.std.proofs.Common.{ℕ, ap, sym, ◌∙◌}
use Rattle.std.specs.Prelude.{◌==◌}
use Rattle.warg_operator_log.proofs.NamespaceJsonLaws.{name_count}
use Rattle.warg_operator_log.proofs.namespace.json.is_one.Goals as goal

pub returns : goal.returns
returns c = ap (λ (n : ℕ). n == 1) (c.len.ensures.len ∙ sym (name_count c.args.members.now.entries))

use Rattle.std.proofs.Common.{◌%◌, ap, sym, ◌∙◌}
use Rattle.std.proofs.Math.Nat.{mod-eq_of_lt}
use Rattle.warg_modular.specs.Value.{value}
use Rattle.warg_modular.proofs.montgomery.sum.Goals as goal

pub returns-clause-sum : goal.returns-clause-sum
returns-clause-sum c = sym (mod-eq_of_lt c.reduced.ensures.below) ∙ c.reduced.ensures.same ∙ ap (λ v. v % value c.args.p) c.add-carry.ensures.total

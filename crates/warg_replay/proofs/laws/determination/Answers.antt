use Rattle.std.proofs.Common.{◌∙◌, sym, subst}
use Rattle.warg_replay.proofs.LogLaws.{determined}
use Rattle.warg_replay.proofs.laws.determination.Goals as goal

pub returns-clause-views : goal.returns-clause-views
returns-clause-views g c = λ b d es fs left right contents ids. determined g.L.Validator.kind g.met.L.Validator.laws b d es fs left right contents ids

pub returns-clause-states : goal.returns-clause-states
returns-clause-states g c = λ b d es fs left right contents ids s t for_es for_fs.
    let laws = g.met.L.Validator in
    let one = for_es ∙ determined g.L.Validator.kind laws.laws b d es fs left right contents ids ∙ sym for_fs in
    (laws.equals s t).1 (subst (λ v. g.L.Validator.equivalent (g.L.Validator.view s) v) one (laws.equivalent_self (g.L.Validator.view s)))

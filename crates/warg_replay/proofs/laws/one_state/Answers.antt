use Rattle.std.proofs.Common.{sym, ◌∙◌, subst}
use Rattle.warg_replay.proofs.laws.one_state.Goals as goal

pub returns-clause-same : goal.returns-clause-same
returns-clause-same g c = λ es s t for_s for_t.
    let laws = g.met.L.Validator in
    (laws.equals s t).1 (subst (λ v. g.L.Validator.equivalent (g.L.Validator.view s) v) (for_s ∙ sym for_t) (laws.equivalent_self (g.L.Validator.view s)))

pub returns-clause-equivalent : goal.returns-clause-equivalent
returns-clause-equivalent g c = λ es s t equivalent for_t. (g.met.L.Validator.equals s t).1 (subst (λ v. g.L.Validator.equivalent (g.L.Validator.view s) v) (sym for_t) equivalent)

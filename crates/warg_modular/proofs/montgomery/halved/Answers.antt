use Rattle.std.proofs.Common.{◌+◌, ap, ◌∙◌}
use Rattle.warg_modular.specs.Value.{value}
use Rattle.warg_modular.proofs.Rounds.{lowest_bit, halved_same}
use Rattle.warg_modular.proofs.montgomery.halved.Goals as goal

pub returns-clause-half : goal.returns-clause-half
returns-clause-half c =
    halved_same _ _ _ _ _ c.requires.below (lowest_bit c.args.p ∙ c.requires.odd) (lowest_bit c.args.a)
    (c.add-top.ensures.total ∙ ap (λ v. value c.args.a + v) c.times_bit.ensures) c.half.ensures

use Rattle.std.proofs.Common.{ap}
use Rattle.warg_modular.specs.Value.{value}
use Rattle.warg_modular.proofs.Rounds.{difference_same}
use Rattle.warg_modular.proofs.montgomery.difference.Goals as goal

pub returns-clause-difference : goal.returns-clause-difference
returns-clause-difference c =
    difference_same c.sub-borrow.result.1 c.add.result.1 _ _ _ _ _ _ c.requires.0 c.requires.1 c.add.ensures.below c.sub-borrow.ensures.total c.add.ensures.total
    (λ h. ap value (c.select.ensures.first h)) (λ h. ap value (c.select.ensures.second h))

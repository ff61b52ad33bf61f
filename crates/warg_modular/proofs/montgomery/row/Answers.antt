use Rattle.warg_modular.specs.Value.{value}
use Rattle.warg_modular.proofs.Rounds.{row_total}
use Rattle.warg_modular.proofs.montgomery.row.Goals as goal

pub returns : goal.returns
unfolding value
returns c =
    row_total _ _ _ _ _ _ _ _ _ _ _ _ _ _ _ _ _ c.carrying_mul_add-low.ensures c.carrying_mul_add-l0.ensures c.carrying_mul_add-l1.ensures c.carrying_mul_add-l2.ensures

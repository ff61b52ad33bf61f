use Rattle.warg_modular.specs.Value.{value, wide}
use Rattle.warg_modular.proofs.Rounds.{rows_total}
use Rattle.warg_modular.proofs.montgomery.wide_product.Goals as goal

pub returns : goal.returns
unfolding value wide
returns c = rows_total _ _ _ _ _ _ _ _ _ _ _ _ _ c.row-l0.ensures c.row-l1.ensures c.row-l2.ensures c.row-l3.ensures

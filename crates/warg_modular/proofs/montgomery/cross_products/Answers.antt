use Rattle.warg_modular.specs.Value.{value, wide, squares}
use Rattle.warg_modular.proofs.Rounds.{crossed}
use Rattle.warg_modular.proofs.montgomery.cross_products.Goals as goal

pub returns : goal.returns
unfolding value wide squares
returns c =
    crossed _ _ _ _ _ _ _ _ _ _ _ _ _ _ _ _ _ _ _ _ _ _ _ _ _ _ _ _
    c.carrying_mul_add-w1.ensures c.carrying_mul_add-w2.ensures c.carrying_mul_add-w3.ensures c.carrying_mul_add-w3-2.ensures c.carrying_mul_add-w4.ensures c.carrying_mul_add-w5.ensures
    c.carrying_mul_add-l1.ensures c.carrying_mul_add-l2.ensures c.carrying_mul_add-l3.ensures c.carrying_mul_add-h0.ensures c.carrying_mul_add-h1.ensures c.carrying_mul_add-h2.ensures

use Rattle.std.proofs.Common.{◌^◌, ◌∙◌, arith}
use Rattle.warg_modular.specs.Value.{value, wide, squares}
use Rattle.warg_modular.proofs.Rounds.{squares_added, squares_total, no_carry}
use Rattle.warg_modular.proofs.montgomery.wide_square.Goals as goal

pub returns : goal.returns
unfolding value wide squares
returns c =
    let low = squares_added _ _ _ _ _ _ _ _ _ _ _ _ _ _ _ c.carrying_mul_add-l0.ensures c.add_with_carry-l1.ensures c.carrying_mul_add-l2.ensures c.add_with_carry-l3.ensures in
    let high = squares_added _ _ _ _ _ _ _ _ _ _ _ _ _ _ _ c.carrying_mul_add-h0.ensures c.add_with_carry-h1.ensures c.carrying_mul_add-h2.ensures c.add_with_carry-h3.ensures in
    no_carry (2 ^ 256) (value c.args.a) _ _ _ (omega arith) (squares_total _ _ _ _ _ _ _ _ _ _ low high ∙ c.cross_products.ensures)

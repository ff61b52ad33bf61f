use Rattle.std.proofs.Common.{arith}
use Rattle.warg_modular.proofs.Rounds.{product_below, value_is}
use Rattle.warg_modular.proofs.montgomery.mul.Goals as goal

pub reduce-requires-clause-below : goal.reduce-requires-clause-below
reduce-requires-clause-below c = product_below _ _ _ _ (omega (arith, value_is c.args.a)) c.requires.below c.wide_product.ensures

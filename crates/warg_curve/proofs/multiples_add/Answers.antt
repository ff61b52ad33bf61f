use Rattle.warg_curve.proofs.GroupMultiples.{multiple_plus, multiple_product}
use Rattle.warg_curve.proofs.multiples_add.Goals as goal

pub returns-clause-sums : goal.returns-clause-sums
returns-clause-sums c = multiple_plus

pub returns-clause-products : goal.returns-clause-products
returns-clause-products c = multiple_product

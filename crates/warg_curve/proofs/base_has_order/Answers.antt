use Rattle.warg_curve.proofs.OnCurve.{base_on_curve}
use Rattle.warg_curve.proofs.BaseOrder.{base_order, equal_multiples}
use Rattle.warg_curve.proofs.base_has_order.Goals as goal

pub returns-clause-on_curve : goal.returns-clause-on_curve
returns-clause-on_curve c = base_on_curve

pub returns-clause-order : goal.returns-clause-order
returns-clause-order c = base_order

pub returns-clause-multiples : goal.returns-clause-multiples
returns-clause-multiples c = equal_multiples

use Rattle.warg_p256.proofs.BaseTable.{row_is_multiple, x_is_reduced, y_is_reduced}
use Rattle.warg_p256.proofs.base_table.base_multiple.Goals as goal

pub invariant_of-result : goal.invariant_of-result
invariant_of-result c = record { reduced = x_is_reduced c.args.i _ c.requires.some c.requires.few }

pub invariant_of-result-2 : goal.invariant_of-result-2
invariant_of-result-2 c = record { reduced = y_is_reduced c.args.i _ c.requires.some c.requires.few }

pub returns : goal.returns
returns c = row_is_multiple c.args.i _ c.requires.some c.requires.few

use Rattle.warg_modular.specs.Value.{value}
use Rattle.warg_modular.proofs.Rounds.{bit_times}
use Rattle.warg_modular.proofs.montgomery.times_bit.Goals as goal

pub returns : goal.returns
unfolding value
returns c = bit_times c.args.bit c.args.p.l0 c.args.p.l1 c.args.p.l2 c.args.p.l3

-- What `run` returns is what the law speaks of, for this verifier and these inputs.
use Rattle.std.proofs.Common.{map}
use Rattle.std.specs.Vec.{vec_items}
use Rattle.warg_examples.proofs.contract.audited.Goals as goal

pub returns : goal.returns
returns g c = c.states_tell_history.ensures.run (g.V.Verifier.belongs c.args.verifier.now) (map vec_items c.args.inputs.now) c.run.result c.run.ensures

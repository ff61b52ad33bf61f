use Rattle.std.proofs.Common.{subst}
use Rattle.warg_c.specs.Registries.{TellsHead}
use Rattle.warg_c.proofs.exports.registry_proofs.head_in.Goals as goal

pub returns-in-Ok-clause-ok : goal.returns-in-Ok-clause-ok
returns-in-Ok-clause-ok c = record {
  id = record { hash = c.in_ok-hash.hash };
  id_text = c.in_ok-hash.ensures.ok;
  tells = subst (λ id. TellsHead c.args.held.now.trees id c.in-Ok.told.1 c.in-Ok.told.0.items) c.from.ensures c.in-Ok.ensures;
}

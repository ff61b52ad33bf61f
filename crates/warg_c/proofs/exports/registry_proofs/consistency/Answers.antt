use Rattle.std.proofs.Common.{◌<◌, arith}
use Rattle.std.specs.Prelude.{◌≤◌, length}
use Rattle.warg_c.proofs.RegistryTexts.{consistency_told, only_memory}
use Rattle.warg_c.proofs.exports.registry_proofs.consistency.Goals as goal

pub returns-in-Ok-clause-ok : goal.returns-in-Ok-clause-ok
returns-in-Ok-clause-ok c = consistency_told (λ v. v.items) c.args.held.now.trees c.args.first c.in-Ok.found c.proof_text.result c.in-Ok.ensures.proves c.proof_text.ensures.ok

pub returns-in-Ok-clause-err : goal.returns-in-Ok-clause-err
returns-in-Ok-clause-err c =
    only_memory (c.args.first ≤ length c.args.held.now.trees) (length c.args.held.now.trees < c.args.first) c.in-Ok.found c.proof_text.result c.in-Ok.ensures.some (omega arith) c.proof_text.ensures.err

use Rattle.std.proofs.Common.{rules, Some}
use Rattle.sha2.specs.Sha256.{sha256}
use Rattle.sha2.proofs.Facts256.{length-sha256}
use Rattle.warg_merkle.specs.SparseMap.Maps.{Leads}
use Rattle.warg_merkle.proofs.SparseMapLemmas.Owning.{own_or_collision}
use Rattle.warg_merkle.proofs.map_proof.verify.verify_presence.Goals as goal

pub returns-clause-sound : goal.returns-clause-sound
returns-clause-sound c = λ is.
    let leads : Leads sha256 (Some c.args.value.now) c.args.key.now c.args.proof.now c.args.root.now = search rules in
    own_or_collision sha256 length-sha256 (Some c.args.value.now) c.args.key.now c.args.proof.now c.args.root.now c.climb.ensures.hashes leads

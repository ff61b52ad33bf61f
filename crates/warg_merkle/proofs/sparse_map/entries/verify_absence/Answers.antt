use Rattle.std.proofs.Common.{rules, None}
use Rattle.sha2.specs.Sha256.{sha256}
use Rattle.sha2.proofs.Facts256.{length-sha256}
use Rattle.warg_merkle.proofs.Sound.{each_long}
use Rattle.warg_merkle.specs.SparseMap.Maps.{Leads}
use Rattle.warg_merkle.proofs.SparseMapLemmas.Owning.{own_or_collision}
use Rattle.warg_merkle.proofs.sparse_map.entries.verify_absence.Goals as goal

pub returns-clause-sound : goal.returns-clause-sound
returns-clause-sound c = λ is.
    let leads : Leads sha256 None c.args.key.now c.args.path.now c.args.root.now = search rules in
    own_or_collision sha256 length-sha256 None c.args.key.now c.args.path.now c.args.root.now (each_long c.args.path.now c.told-path) leads

use Rattle.std.proofs.Common.{rules, None, sym}
use Rattle.sha2.specs.Sha256.{sha256}
use Rattle.warg_merkle.specs.SparseMap.Maps.{Leads}
use Rattle.warg_transparency.proofs.map.verify_absence.Goals as goal

pub returns-clause-shown : goal.returns-clause-shown
returns-clause-shown c = λ is.
    let leads : Leads sha256 None c.args.log_id.now.hash.bytes c.args.proof.now c.args.root.now.bytes = search rules in
    record { leads = leads; siblings = rw (sym c.short.ensures) c.verify_absence.ensures.hashes }

use Rattle.std.proofs.Common.{rules, Some, sym}
use Rattle.sha2.specs.Sha256.{sha256}
use Rattle.warg_registry.specs.PrefixEncodings.{map_leaf_encoding_of}
use Rattle.warg_merkle.specs.SparseMap.Maps.{Leads}
use Rattle.warg_transparency.proofs.map.verify_presence.Goals as goal

pub returns-clause-shown : goal.returns-clause-shown
returns-clause-shown c = λ is.
    let leads : Leads sha256 (Some (map_leaf_encoding_of c.args.leaf.now)) c.args.log_id.now.hash.bytes c.args.proof.now c.args.root.now.bytes = search rules in
    record { leads = leads; record_id = c.map_leaf_bytes.ensures.is_hash; siblings = rw (sym c.short.ensures) c.verify_presence.ensures.hashes }

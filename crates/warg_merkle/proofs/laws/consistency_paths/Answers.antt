use Rattle.sha2.specs.Sha256.{sha256}
use Rattle.warg_merkle.proofs.Consistent.{own_paths_extend}
use Rattle.warg_merkle.proofs.ExtensionPaths.{whole_at_powers}
use Rattle.warg_merkle.proofs.Subproofs.{is_subproof}
use Rattle.warg_merkle.proofs.laws.consistency_paths.Goals as goal

pub returns : goal.returns
returns c = record { rfc = is_subproof sha256; own = own_paths_extend sha256; whole = whole_at_powers }

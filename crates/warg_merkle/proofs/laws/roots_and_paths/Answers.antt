use Rattle.sha2.specs.Sha256.{sha256}
use Rattle.warg_merkle.proofs.Paths.{is_root, is_path}
use Rattle.warg_merkle.proofs.laws.roots_and_paths.Goals as goal

pub returns : goal.returns
returns c = record { roots = is_root sha256; paths = is_path sha256 }

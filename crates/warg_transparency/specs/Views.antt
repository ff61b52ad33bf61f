-- Views of a registry's log that do not go on from one another.
use Rattle.std.specs.Prelude.{◌≡◌, ℕ, List, length}
use Rattle.sha2.specs.Sha256.{sha256}
use Rattle.warg_merkle.specs.Trees.{tree_hash}
use Rattle.warg_merkle.specs.Extensions.{IsConsistent}
use Rattle.warg_registry.specs.declared.checkpoint.Checkpoint.{Checkpoint}

-- the entries have the checkpoint's length and root
pub record IsLogOf (checkpoint : Checkpoint) (entries : List (List ℕ)) : Type 0 where
  pub size : length entries ≡ checkpoint.log_length
  pub root : tree_hash sha256 entries ≡ checkpoint.log_root.bytes

-- the proof shows that the log of the new checkpoint begins with that of the old one
abbrev pub GoesOn : Checkpoint → Checkpoint → List (List ℕ) → Type 0
GoesOn old new proof = IsConsistent sha256 old.log_length new.log_length proof old.log_root.bytes new.log_root.bytes

-- What two views of a registry show of one another: that they are one, that one goes on from the other, or a fork.
use Rattle.std.specs.Prelude.{◌≡◌, ◌≢◌, ◌<◌, ℕ, List, [], length, slice_index_or}
use Rattle.sha2.specs.Sha256.{sha256}
use Rattle.warg_registry.specs.PrefixEncodings.{log_leaf_encoding_of}
use Rattle.warg_registry.specs.declared.checkpoint.Checkpoint.{Checkpoint}
use Rattle.warg_merkle.specs.Trees.{HaveCollision, inclusion_path, path_inputs}
use Rattle.warg_transparency.specs.Contradictions.{ShowsLeafAt}
use Rattle.warg_transparency.specs.Views.{GoesOn}
use Rattle.warg_transparency.specs.declared.forks.ShownLeaf.{ShownLeaf}

-- the checkpoints are of one length and differ, in the root of the log or of the map
pub record IsFork (old new : Checkpoint) : Type 0 where
  pub one_length : old.log_length ≡ new.log_length
  pub differ : old ≢ new

-- the log of the new checkpoint is longer, and the proof shows that it goes on from that of the old one
pub record IsShownToGoOn (old new : Checkpoint) (proof : List (List ℕ)) : Type 0 where
  pub longer : old.log_length < new.log_length
  pub goes_on : GoesOn old new proof

-- the log of the new checkpoint is longer, and the proof does not show that it goes on from that of the old one
pub record IsNotShownToGoOn (old new : Checkpoint) (proof : List (List ℕ)) : Type 0 where
  pub longer : old.log_length < new.log_length
  pub refused : GoesOn old new proof → ⊥

-- the leaf is shown at the index of the log under its checkpoint
abbrev pub IsShownAt : ℕ → ShownLeaf → Type 0
IsShownAt index shown = ShowsLeafAt shown.checkpoint.now index shown.leaf.now shown.proof.now

-- both leaves are shown at the index, each under its checkpoint
pub record AreShownAt (index : ℕ) (old new : ShownLeaf) : Type 0 where
  pub old_is : IsShownAt index old
  pub new_is : IsShownAt index new

-- both leaves are shown at the index, and they are one
pub record IsOneLeaf (index : ℕ) (old new : ShownLeaf) : Type 0 where
  pub shown : AreShownAt index old new
  pub one : old.leaf.now ≡ new.leaf.now

-- both leaves are shown at the index, and they differ
pub record IsLeafFork (index : ℕ) (old new : ShownLeaf) : Type 0 where
  pub shown : AreShownAt index old new
  pub differ : old.leaf.now ≢ new.leaf.now

-- what is hashed for the entries' own path at the index and for the proof of the leaf collides
abbrev pub CollidesAt : List (List ℕ) → ℕ → ShownLeaf → Type 0
CollidesAt entries index shown = HaveCollision sha256
    (path_inputs sha256 (slice_index_or entries index []) index (length entries) (inclusion_path sha256 index entries))
    (path_inputs sha256 (log_leaf_encoding_of shown.leaf.now) index (length entries) shown.proof.now)

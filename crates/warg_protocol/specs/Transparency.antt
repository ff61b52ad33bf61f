-- A registry's log, the proofs on it, and the heads of logs under a checkpoint.
-- trees of leaves, their roots and paths; what an accepted proof says; collisions by their place
pub use Rattle.warg_merkle.specs.Trees.{Side, Includes, IsOwn, HaveCollision, leaf_input, tree_hash, inclusion_path}
pub use Rattle.warg_merkle.specs.Extensions.{IsConsistent, IsBeginning, consistency_proof}
pub use Rattle.warg_merkle.specs.MerkleLog.Logs.{ForLeaves}
-- what stands in a registry's log, and checkpoints that go on from one another
pub use Rattle.warg_registry.specs.PrefixEncodings.{log_leaf_encoding_of}
pub use Rattle.warg_transparency.specs.Standings.{IsOfTrees}
pub use Rattle.warg_transparency.specs.Views.{GoesOn, IsLogOf}
-- heads that are shown under a checkpoint
pub use Rattle.warg_transparency.specs.Heads.{ShowsHead, ShowsLeaf, head_leaf, path_inputs_for}
-- the log and the map of leaves, and what they prove
pub use Rattle.warg_transparency.specs.RegistryTrees.{HasHashes, HasNone, HeadIs, IsCheckpointOf, IsHead, IsMapOf, IsMapRoot, entries_of, leaf_of}
pub use Rattle.warg_transparency.specs.RegistryTrees.{ProvesBeginning, ProvesHead, ProvesLeaf}
pub use Rattle.warg_transparency.specs.SavedLeaves.{AreSaved, leaf_bytes, saved_form}
-- proofs that contradict each other under one checkpoint, and what is hashed where they are tried
pub use Rattle.warg_transparency.specs.Contradictions.{ShowsBeginning, ShowsLeafAt, ShowsNothing}
pub use Rattle.warg_transparency.specs.Contradictions.{beginning_inputs, leaf_inputs, nothing_inputs}
-- what two clients hold
pub use Rattle.warg_transparency.specs.Forks.{AreShownAt, CollidesAt, IsFork, IsLeafFork, IsNotShownToGoOn, IsOneLeaf, IsShownAt, IsShownToGoOn}
-- what a registry shows twice, of the head of a log and of the beginning of its own
pub use Rattle.warg_transparency.specs.ShownTwice.{AreHeadAndNone, AreHeadsShown, AreTwoHeads, IsOneHead, IsShownHead, ShowsAnswer}
pub use Rattle.warg_transparency.specs.ShownTwice.{AreBeginningsShown, AreTwoLengths, IsBeginningCollision, IsBeginningFork, IsOneBeginning}
pub use Rattle.warg_transparency.specs.ShownTwice.{IsShownBeginning, answer_inputs, head_inputs, inputs_of}
-- the texts of proofs, and what texts are read as
pub use Rattle.warg_crypto.specs.OutcomeResults.{ReturnsOr}
pub use Rattle.warg_transparency.specs.Texts.{log_proof_of, log_proof_text, map_proof_of, map_proof_text}

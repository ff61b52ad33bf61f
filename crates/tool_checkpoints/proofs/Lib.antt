mod HeadLemmas
pub mod RegistryLemmas
pub mod WordLemmas
mod CheckpointLemmas
mod SignedLemmas
pub mod ProofTextLemmas
mod ViewLemmas
mod TwiceLemmas

pub mod PlainLemmas
pub mod ByteLemmas
pub mod WordLemmas
pub mod VersionLemmas

pub mod Audited
pub mod AuditedWords
pub mod Chains
pub mod Comparisons
pub mod Extinction
pub mod Heads
pub mod GrantIndexes
pub mod Log

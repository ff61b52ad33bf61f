pub mod BucketLemmas
pub mod EntryLemmas
pub mod IndexLemmas
pub mod MapLemmas
pub mod WriteLemmas

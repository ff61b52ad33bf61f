pub mod WordLemmas
pub mod EntryLemmas
pub mod SealedLemmas
pub mod RecordLemmas

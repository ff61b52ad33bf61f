pub mod ReasonLemmas
pub mod ShownLemmas
pub mod LineLemmas

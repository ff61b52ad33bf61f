pub mod InlineLemmas
pub mod CharacterLemmas
pub mod ShownLemmas
pub mod BackLemmas
pub mod ReadLemmas
pub mod LineLemmas
pub mod JsonLemmas
pub mod SignLemmas

pub mod RequestLemmas
pub mod NameLemmas
pub mod ResponseLaws

pub mod Equality
pub mod JsonLemmas
pub mod Distinct
pub mod KeyMapsLemmas

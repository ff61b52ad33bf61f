pub mod Pairs
pub mod JsonTextLaws

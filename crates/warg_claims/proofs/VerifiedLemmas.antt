pub mod BackLemmas
pub mod CutLemmas
pub mod HexLemmas
pub mod PartLemmas
pub mod SameLemmas
pub mod SymbolLemmas
pub mod TextLemmas

pub mod Visits
pub mod PrefixLemmas
pub mod Grammars
pub mod DigitLemmas
pub mod JsonLemmas
pub mod TimeLemmas

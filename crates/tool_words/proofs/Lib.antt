pub mod InvocationLemmas
pub mod PartLemmas
pub mod RuleLemmas

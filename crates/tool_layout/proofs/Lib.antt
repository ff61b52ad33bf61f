pub mod DigestLemmas
pub mod LayoutLemmas
pub mod LineLemmas
pub mod NameLemmas
pub mod PrintableLemmas
pub mod WordLemmas
pub mod MembersLemmas

pub mod Rights
pub mod AuthorityData
pub mod Keys
pub mod KeyEntries
pub mod Changes
pub mod Equal
pub mod EqualLaws

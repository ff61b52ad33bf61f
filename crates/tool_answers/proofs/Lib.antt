pub mod LoadingLemmas
pub mod ShownWordLemmas
pub mod UnreadLemmas
pub mod PartingLemmas
pub mod KeyIdLemmas
pub mod WordLemmas
pub mod ToolWordLaws

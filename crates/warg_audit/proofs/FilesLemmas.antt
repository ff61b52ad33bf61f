pub mod LineFeeds
pub mod LineLemmas
pub mod InputLemmas
pub mod RecordLineLemmas
pub mod PlainLemmas
pub mod AnswerLemmas
pub mod UnusableLemmas

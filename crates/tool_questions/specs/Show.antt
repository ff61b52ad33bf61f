pub mod Advice
pub mod ShownLogs
pub mod ShowWords

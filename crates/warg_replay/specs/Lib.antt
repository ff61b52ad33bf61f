pub mod LogWords
pub mod Logs
pub mod Messages
pub mod OutcomeRuns
pub mod Inputs
pub mod Telling
pub mod AuditedLog

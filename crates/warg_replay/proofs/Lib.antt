pub mod InputLaws
pub mod LoopLaws
pub mod OutcomeLaws
pub mod LogLaws
pub mod RunLaws
pub mod Tellings
pub mod AuditedLogLemmas

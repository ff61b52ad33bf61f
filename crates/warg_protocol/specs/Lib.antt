-- What a clause of one's own may cite: of records, of whole logs (in short words too) and their history, of package logs,
-- of operator logs, of messages, of keys and times, of a registry, of its log and its map, of errors, of JSON.
pub mod Records
pub mod Logs
pub mod LogWords
pub mod AuditedWords
pub mod History
pub mod P256
pub mod Package
pub mod Operator
pub mod ReleaseStates
pub mod Messages
pub mod Texts
pub mod Registry
pub mod Transparency
pub mod RegistryMaps
pub mod Errors
pub mod Json
pub mod ParseEnvelopeErrors
pub mod RunCauses

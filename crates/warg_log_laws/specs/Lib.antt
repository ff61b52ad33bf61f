pub mod GrantChains
pub mod EntryByEntry
pub mod Grammars
pub mod RuledLogs
pub mod OperatorKind
pub mod PackageKind

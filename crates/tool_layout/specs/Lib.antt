pub mod Digests
pub mod KeyNames
pub mod Names
pub mod Layouts
pub mod Logs
pub mod Chains
pub mod Colours
pub mod Members

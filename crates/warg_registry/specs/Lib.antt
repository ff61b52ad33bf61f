pub mod KebabNames
pub mod PackageNames
pub mod PrefixEncodings
pub mod LogIds
pub mod Checkpoints
pub mod RegistryJson

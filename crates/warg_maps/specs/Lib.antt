pub mod Buckets
pub mod FarHash
pub mod Index
pub mod Lends
pub mod NameMap

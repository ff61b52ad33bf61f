pub mod KeyWords
pub mod TimeWords
pub mod Sealed
pub mod Words
pub mod Entries
pub mod NextRecords

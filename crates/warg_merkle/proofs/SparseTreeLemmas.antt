pub mod Ways
pub mod EmptyRoots
pub mod Behind
pub mod Open
pub mod Whole

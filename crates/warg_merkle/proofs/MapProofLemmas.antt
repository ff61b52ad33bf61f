pub mod Shortness
pub mod Chunks
pub mod Ups
pub mod Forms
pub mod Steps
pub mod Marks
pub mod Canonical
pub mod ShortFormOf

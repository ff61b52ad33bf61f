pub mod Characters
pub mod Printable
pub mod Back
pub mod Lines
pub mod Json

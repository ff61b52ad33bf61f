pub mod Premises
pub mod Plain

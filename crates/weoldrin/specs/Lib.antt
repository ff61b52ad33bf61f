pub mod AtOnce
pub mod Looks
pub mod Requests
pub mod Schemes

pub mod Rounds
pub mod Bits
pub mod Bytes

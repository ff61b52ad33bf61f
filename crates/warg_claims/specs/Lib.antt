pub mod Claimed
pub mod ClaimWords
pub mod Verified

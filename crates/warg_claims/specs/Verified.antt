pub mod Claims
pub mod Faults
pub mod Lines
pub mod SameClaims
pub mod ClaimOrder
pub mod Parts
pub mod Texts

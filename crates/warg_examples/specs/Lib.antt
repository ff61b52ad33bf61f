pub mod Offers
pub mod Stamp

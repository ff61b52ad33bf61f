pub mod Roots
pub mod Leaves
pub mod Joins
pub mod Completing
pub mod Shortening

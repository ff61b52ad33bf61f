pub mod Field
pub mod Order
pub mod Curve
pub mod Group
pub mod Laws

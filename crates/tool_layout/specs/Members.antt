pub mod Forms
pub mod Objects

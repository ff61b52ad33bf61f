pub mod BigEndian
pub mod Value

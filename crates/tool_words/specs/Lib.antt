pub mod Commands
pub mod Parts
pub mod PartsViews
pub mod Rules
pub mod Requests
pub mod Invocations

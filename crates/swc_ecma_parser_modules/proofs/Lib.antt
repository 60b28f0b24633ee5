pub mod Bindings
pub mod Steps
pub mod Misnamed

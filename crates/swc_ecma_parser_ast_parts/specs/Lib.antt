pub mod View
pub mod Targets

pub mod Refusals
pub mod Operations

pub mod Exports
pub mod Kept
pub mod Places

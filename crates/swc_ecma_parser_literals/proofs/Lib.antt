pub mod Refusals
pub mod Covers

mod Kept
mod Answered
pub mod Same
pub mod Plainness

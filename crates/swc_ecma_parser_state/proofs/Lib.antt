pub mod Primitives
pub mod Taken
pub mod Contexts
pub mod Words
pub mod Rejects
pub mod Candidates
mod Underway

pub mod Nests
pub mod Covers
pub mod Keys
pub mod Patterns
pub mod Operators

pub mod Steps
pub mod Expressions
pub mod Statements
pub mod Entries

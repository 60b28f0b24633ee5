pub mod Declarations
pub mod Entries
pub mod Names

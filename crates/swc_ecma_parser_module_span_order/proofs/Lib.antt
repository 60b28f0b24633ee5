pub mod Imports
pub mod Exports
pub mod Entries
pub mod Since
pub mod Follows

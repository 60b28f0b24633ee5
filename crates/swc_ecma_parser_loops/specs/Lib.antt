pub mod Flags
pub mod Made
pub mod Openings

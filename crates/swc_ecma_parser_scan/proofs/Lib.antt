pub mod Scans
pub mod Bytes
pub mod Runs
pub mod Blanks
pub mod Lone

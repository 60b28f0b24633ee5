pub mod Around
pub mod Labels
pub mod Literals
pub mod Wanted

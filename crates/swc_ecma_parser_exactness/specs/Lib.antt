pub mod Supports
pub mod Completes
pub mod Unique
pub mod Decides
pub mod ModuleDecides
pub mod Walked

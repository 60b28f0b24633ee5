pub mod Stacked
pub mod Nesting

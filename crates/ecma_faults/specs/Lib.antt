pub mod Excerpt
pub mod Json
pub mod Shown
pub mod Text
pub mod Early

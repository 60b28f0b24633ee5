mod Back
mod Chars
pub mod Columns
mod Safe

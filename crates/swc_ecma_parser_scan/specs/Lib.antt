pub mod Chars
pub mod Numbers
pub mod Step
pub mod Scan
pub mod Runs
pub mod Splits
pub mod Lone

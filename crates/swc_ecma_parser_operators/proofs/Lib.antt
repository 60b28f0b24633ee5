pub mod Heads
pub mod Behind

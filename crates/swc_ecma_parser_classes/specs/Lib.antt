pub mod Heads
pub mod Named

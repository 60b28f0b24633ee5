pub mod Faults
pub mod Law

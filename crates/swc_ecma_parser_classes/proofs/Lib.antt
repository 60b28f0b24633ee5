pub mod Members
pub mod Surplus

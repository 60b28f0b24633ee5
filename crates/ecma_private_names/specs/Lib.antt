pub mod Kept
pub mod PrivateNames

mod Pending
pub mod Written

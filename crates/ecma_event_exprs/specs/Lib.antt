pub mod Events
pub mod Literals
pub mod Pending

pub mod Forward
pub mod Follows
pub mod Laws

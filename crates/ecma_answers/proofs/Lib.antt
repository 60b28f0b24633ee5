mod Choosing
mod Deciding
mod Drawing
mod Finding
mod Listing
pub mod Same
pub mod Written

pub mod Parts
pub mod Prologues

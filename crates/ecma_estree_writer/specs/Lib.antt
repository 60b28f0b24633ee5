pub mod Source
pub mod Words
pub mod Parts
pub mod Estree
pub mod Writing
pub mod Work

pub mod Enclosed
pub mod Parts
pub mod OwnNames
pub mod Setters
pub mod Plain

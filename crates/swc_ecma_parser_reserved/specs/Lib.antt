pub mod Special
pub mod Words

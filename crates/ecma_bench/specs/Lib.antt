pub mod Faults
pub mod Figures
pub mod Words

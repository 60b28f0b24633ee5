pub mod Early
pub mod Sentences

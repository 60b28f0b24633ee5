pub mod Look
pub mod Message
pub mod Note
pub mod Payload
pub mod Sentence

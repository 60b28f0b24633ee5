pub mod Falls
pub mod Loops
pub mod Limits
pub mod Keeps
pub mod Sound
pub mod Complete

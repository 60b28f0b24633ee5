pub mod Law
pub mod Nodes
pub mod Reading

pub mod Binding
pub mod Kind
pub mod Turned

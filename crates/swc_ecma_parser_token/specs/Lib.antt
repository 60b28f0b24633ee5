pub mod Kind
pub mod Text

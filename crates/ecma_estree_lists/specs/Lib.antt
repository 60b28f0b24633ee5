pub mod Comments
pub mod Tokens

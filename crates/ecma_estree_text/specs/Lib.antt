pub mod Quoted
pub mod Spots
pub mod Places
pub mod Bracket
pub mod Number
pub mod Strings
pub mod Digits

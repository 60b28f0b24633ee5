pub mod Bounds
pub mod Chars
mod Lists
pub mod Numbers
pub mod Objects
mod Pieces
mod Strings
mod Trees
pub mod Values
mod Words

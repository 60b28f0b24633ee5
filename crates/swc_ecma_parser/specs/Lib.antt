pub mod Parsing
pub mod Reading
pub mod Headline
pub mod Same
pub mod Plain

pub mod Directives
pub mod Exported
pub mod Listed

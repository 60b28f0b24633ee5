pub mod Contents
pub mod Keeps
pub mod View
pub mod FirstError
pub mod Taken
pub mod Opened
pub mod CallView

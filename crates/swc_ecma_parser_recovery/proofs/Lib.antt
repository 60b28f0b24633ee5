pub mod Dropped
mod UpToEnd

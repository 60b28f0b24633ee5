pub mod AsyncHead
mod Awaits
mod Flags
mod Misdeclared
mod Targets

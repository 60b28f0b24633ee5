-- What the readers and the proofs use beside the language. Nothing in it has to be believed.
pub mod Using
pub mod Reads
pub mod Decorated
pub mod Supported
pub mod ReadsSupported
pub mod Entries

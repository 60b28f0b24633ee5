mod ByKind
pub mod Clauses
pub mod Labels
pub mod Strays

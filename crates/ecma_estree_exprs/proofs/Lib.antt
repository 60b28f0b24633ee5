mod Arguments
pub mod AsExpr
mod Decorators
pub mod Steps

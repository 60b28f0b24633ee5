mod Misused
mod AwaitStmt
mod Returned

mod Closed
mod Listed

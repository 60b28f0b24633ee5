mod Counts
mod Digits
mod Points
mod Regexes
mod Spots
mod Value

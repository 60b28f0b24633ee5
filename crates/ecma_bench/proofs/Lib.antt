mod Parsed
mod Measured

mod Handles
mod Plain

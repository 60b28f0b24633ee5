mod Turns
mod Texts

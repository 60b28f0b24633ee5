pub mod Arrows

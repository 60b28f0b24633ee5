pub mod Stacks
pub mod Rooms

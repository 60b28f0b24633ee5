pub mod Bytes
pub mod Outline
pub mod Piece
pub mod Source

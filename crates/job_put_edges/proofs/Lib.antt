-- Hex: the hex digits of a set of marks read back
pub mod Hex
-- Pieces: an edge line in the pieces in which it is written
pub mod Pieces

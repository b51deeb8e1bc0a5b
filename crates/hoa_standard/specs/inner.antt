-- Sides: the machines' states that are met together, as the reader keeps them
pub mod Sides

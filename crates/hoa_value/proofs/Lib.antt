-- Spots: the first token from a place on, by what it is in the header
pub mod Spots
-- Pieces: which tokens belong to what stands before them, and what the others do
pub mod Pieces
-- Values: the INTs of States: and Start:
pub mod Values
-- Passing: what is passed over
pub mod Passing
-- Forms: the formula inside the header
pub mod Forms
-- Naming: the names of AP:
pub mod Naming

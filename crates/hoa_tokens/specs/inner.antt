-- Reads: what the functions of the crate promise to each other
pub mod Reads

-- Rows: the lines of a state
pub mod Rows

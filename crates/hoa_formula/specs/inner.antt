-- Ends: where the formula is over, as the reader tells it
pub mod Ends

-- Why the rank is right.
pub mod Largest

-- What the crate proves beyond its functions' contracts.
pub mod Unique

-- What the private functions promise.
-- Levels: what factors and levels of brackets give, for every list of levels outside them
pub mod Levels

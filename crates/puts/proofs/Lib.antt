-- Puts: one text after another, and how many digits a number has
pub mod Puts
-- Decimals: what holds of the digits of every number
pub mod Decimals
-- Over: texts whose bytes all stand above a byte
pub mod Over
-- Few: the same in at most so many bytes
pub mod Few
-- Unique: one result for one input
pub mod Unique

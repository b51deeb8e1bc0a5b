-- Writings: the lists of a table that is not refused, and the limits
pub mod Writings
-- Size: how long a text is at most
pub mod Size
-- Unique: one result for one input
pub mod Unique

-- What private functions ask and promise; nothing that a caller of the reader has to believe.
-- Turns: one entry, and all of them.
pub mod Turns
-- Handed: the kept edges by states, in the lent tables.
pub mod Handed

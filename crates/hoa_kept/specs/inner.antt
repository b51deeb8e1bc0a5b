-- What the functions ask and promise; nothing that a caller of the reader has to believe.
-- Copied: the kept edges by states, in the lent tables.
pub mod Copied
-- Held: how the rows so far are held in numbers and tables, and what a row and an edge change.
pub mod Held

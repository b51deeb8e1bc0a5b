-- Holding: what a row and an edge change keeps the rows held
pub mod Holding
-- Copying: the kept edges by states
pub mod Copying

-- Turning: one entry of the rows, and all of them
pub mod Turning
-- Worth: what rows that are read to their end keep is a table's worth
pub mod Worth
-- Handing: the edges that are read, in the lent tables
pub mod Handing
-- Promises: one result, never cut, and what is handed over is a table's worth
pub mod Promises
-- Examples: rows computed from the definitions
pub mod Examples

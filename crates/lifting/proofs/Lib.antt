-- RowParts: a row handed on as parts of the tables gives the row's cells of the definition
pub mod RowParts
-- Wrote: runs written one behind the other make one run
pub mod Wrote

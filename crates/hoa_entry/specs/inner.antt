-- What the functions promise; nothing that a caller of the reader has to believe.
-- Reads: what the functions that read a sig, a row and an edge promise.
pub mod Reads

-- What the functions ask and promise; nothing that a caller of the reader has to believe.
-- Turns: one token as the reader takes it
pub mod Turns
-- Counts: the needs as the reader counts them
pub mod Counts

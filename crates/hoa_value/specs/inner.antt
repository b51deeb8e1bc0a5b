-- What the functions ask and promise; nothing that a caller of the reader has to believe.
-- Pieces: what a token is where the header stands. Values: where reading goes on behind a value.
pub mod Pieces
pub mod Values
-- Names: the names of AP:, where they stand in the text.
pub mod Names

-- Steps: the reader's turn is the admission of a token
pub mod Steps
-- Keeping: what stays true from token to token
pub mod Keeping

-- What private functions ask and promise. Kinds: what a token is where an INT or a STRING is wanted.
pub mod Kinds

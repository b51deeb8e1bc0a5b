-- Bytes: quoted texts, and which bytes are letters, digits and blanks
pub mod Bytes
-- Token: what a token is, and the token at the front of bytes
pub mod Token
-- Stream: the tokens of a text with their places
pub mod Stream
-- inner: what the crate's functions promise to each other
pub mod inner

-- Sig: signatures token by token
pub mod Sig
-- Rows: the rows token by token
pub mod Rows
-- inner: what the functions promise
pub mod inner

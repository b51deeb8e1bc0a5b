-- Head: what is known of a header
pub mod Head
-- Heading: the header token by token
pub mod Heading
-- inner: what the functions ask and promise
pub mod inner

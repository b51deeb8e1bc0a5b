-- Turned: what `translate_text` gives for a text, the whole promise from bytes to bytes
pub mod Turned
-- inner: what private contracts go by
pub mod inner

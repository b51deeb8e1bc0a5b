-- inner: what the functions ask and promise; nothing that a caller of the translation has to believe.
pub mod inner

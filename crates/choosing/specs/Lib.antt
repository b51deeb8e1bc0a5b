-- inner: what the functions ask and promise; nothing that a caller of the judge has to believe.
pub mod inner

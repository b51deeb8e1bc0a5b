-- inner: what the functions ask and promise; nothing that a caller of the writer has to believe
pub mod inner

-- inner: what the functions ask and promise
pub mod inner

-- Sorted: edges by the state that they leave
pub mod Sorted
-- inner: what the functions ask and promise
pub mod inner

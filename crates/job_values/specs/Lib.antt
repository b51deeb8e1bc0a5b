-- Bytes: newline, comma, and how far a byte is away
pub mod Bytes
-- Number: the form of numbers and of mark sets
pub mod Number
-- Given: what the reader of a number says
pub mod Given
-- Column: where a line stops being of its form
pub mod Column
-- Value: the form of edges, kinds, forms and needs
pub mod Value
-- inner: what the readers of values ask and promise
pub mod inner

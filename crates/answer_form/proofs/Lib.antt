-- Digits: a number and its digits
pub mod Digits
-- Lists: a list of edges and its printed form
pub mod Lists
-- Inverse: the reader of answer texts is the inverse of the printer
pub mod Inverse
-- Forms: a text read from a place on
pub mod Forms
-- Reading: what an answer text is, from its values
pub mod Reading

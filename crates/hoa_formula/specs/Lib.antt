-- Cond: the grammar of a condition (section 2 of the format)
pub mod Cond
-- Walking: runs of tokens, and beginnings of formulas
pub mod Walking
-- Reading: what the reader promises
pub mod Reading
-- inner: what only the reader's own contracts need
pub mod inner

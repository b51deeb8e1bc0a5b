-- Label: labels as a grammar, what they may hold, and what they mean
pub mod Label
-- Labels: which token of a label is admitted, one at a time
pub mod Labels
-- Reading: what reading a label gives
pub mod Reading
-- inner: what the private functions promise
pub mod inner

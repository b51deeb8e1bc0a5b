-- Split: where a job ends and an answer text begins on one input
pub mod Split
-- Replied: what is printed for an input, the whole promise from bytes to bytes
pub mod Replied
-- inner: what private contracts go by
pub mod inner

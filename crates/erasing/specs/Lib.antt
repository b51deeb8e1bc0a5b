-- Depth: how deep the erasing went, which judging/specs/Answer.antt cites. inner: what the functions ask and promise; nothing that a caller of
-- the judge has to believe.
pub mod Depth
pub mod inner

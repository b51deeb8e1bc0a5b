-- Answer: what the judge promises; with Rank of the crate `hunting` and Depth of `erasing`, which it cites, it is all that a reader has to believe.
-- inner: what private functions ask and promise.
pub mod Answer
pub mod inner

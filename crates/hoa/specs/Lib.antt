-- Reading: tokens from the left, to the faulty one or to what the text says
pub mod Reading
-- Returned: what comes back, and what the lent tables hold
pub mod Returned
-- inner: what private contracts go by
pub mod inner

-- Lent: what comes back, and what the lent tables hold
pub mod Lent
-- inner: what private functions ask and promise
pub mod inner
-- Worth: what is kept is a table's worth
pub mod Worth

-- Headed: what comes back
pub mod Headed
-- inner: what private functions ask and promise
pub mod inner

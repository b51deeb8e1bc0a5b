-- Machine: tokens taken one by one
pub mod Machine
-- Given: numbers that may be missing
pub mod Given
-- Wanted: where an INT or a STRING is wanted
pub mod Wanted
-- inner: what private functions ask and promise
pub mod inner

-- Fault: the first fault of a run that a text names
pub mod Fault
-- Checking: what `check_answer` gives, the whole promise
pub mod Checking
-- inner: what private contracts go by
pub mod inner

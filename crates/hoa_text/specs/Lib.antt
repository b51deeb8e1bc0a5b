-- Turned: what `job_to_hoa` gives for a text, the whole promise from bytes to bytes
pub mod Turned

-- Field: a value and the byte behind it
pub mod Field
-- Told: what the readers of values say
pub mod Told

-- Turning: from what the reader, the writer and the printer give to the whole promise
pub mod Turning
-- Unique: one text, one result
pub mod Unique

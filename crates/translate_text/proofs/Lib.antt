-- Translating: from what the reader, the translation, the writer and the printer give to the whole promise
pub mod Translating
-- Unique: one text, one result
pub mod Unique

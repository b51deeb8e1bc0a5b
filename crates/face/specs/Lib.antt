-- Numbers: those of an answer and of a translation
pub mod Numbers
-- Hoa: those of a reading and of a writing
pub mod Hoa

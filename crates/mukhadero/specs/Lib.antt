-- Numbers: what the judges and the translation tell
pub mod Numbers
-- Hoa: what the reader of the Hanoi format and the writers tell
pub mod Hoa

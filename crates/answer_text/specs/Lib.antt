-- Printed: the eight lines of an answer, and what printing them into a lent buffer does
pub mod Printed

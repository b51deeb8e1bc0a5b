-- Writings: what is given, refusal by refusal and for a text that is written
pub mod Writings

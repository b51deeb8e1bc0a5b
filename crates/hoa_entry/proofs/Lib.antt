-- Signs: a mark of one byte takes one byte
pub mod Signs
-- Steps: the machine's steps at the token that is found, sigs and labels inside the rows
pub mod Steps
-- Reading: what the functions that read a sig, a row and an edge find makes a stretch of the machine
pub mod Reading

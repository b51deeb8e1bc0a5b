-- Faults, Looks: rows 5 to 7 edge by edge, and by one look
pub mod Faults
pub mod Looks
-- Sound: exactly which tables are found sound
pub mod Sound
-- Door: what the number and place of a finding say
pub mod Door
-- Unique: each contract allows one result
pub mod Unique
-- Needs: Rabin's needs and the marks that they deal out
pub mod Needs
-- Rows: the row of a state, and parts of a table
pub mod Rows
-- Walks: laws of walks, of lassos and of the marks on them
pub mod Walks
-- Shifts: the numbered shift cases
pub mod Shifts

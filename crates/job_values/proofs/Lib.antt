-- Sets: byte strings of which none begins another
pub mod Sets
-- Cut: a text cut at a byte, and fields
pub mod Cut
-- Pad: zeros after what is written
pub mod Pad
-- Numbers: digits one after the other, and what cannot begin a number
pub mod Numbers
-- Fields: a number with the byte that ends it
pub mod Fields
-- Runs: the longest run of bytes that can begin a number
pub mod Runs
-- Marks: eight hex digits and the newline byte
pub mod Marks
-- Words: how far bytes agree with a word
pub mod Words
-- Losses: values that are not of their form, in a line
pub mod Losses
-- Edges: an edge is three fields
pub mod Edges
-- Spoken: values that are words
pub mod Spoken
-- Needs: a list of needs is its fields
pub mod Needs
-- Columns: where a line stops being of its form
pub mod Columns
-- Promises: one result for one input
pub mod Promises
-- Decimals: the digits of a number are read as the number
pub mod Decimals

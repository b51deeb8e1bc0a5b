-- Limits: what the reader lets pass keeps the program's limits, and what it refuses has one of the rows 20 to 23
pub mod Limits
-- Lent: what is lent to the judge is enough, so that rows 8 and 9 never come out
pub mod Lent
-- Fits: every printed answer fits the buffer
pub mod Fits
-- Telling: from what the reader, the judge and the printer give to the whole promise
pub mod Telling
-- Replies: an answer or one numbered refusal, for every text
pub mod Replies
-- Unique: two allowed results are the same, the lasso aside
pub mod Unique
-- HoaTelling: from what the reader of the Hanoi format, the judge and the printer give to the whole promise
pub mod HoaTelling

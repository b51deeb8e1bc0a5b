-- Table: tables, walks, lassos
pub mod Table
-- Condition: when a lasso is accepted; run and empty
pub mod Condition
-- Refusal: rows 1 to 7, and the tables that they pass
pub mod Refusal
-- Verdict: the parts of the judge's answer
pub mod Verdict
-- Row: the row of a state
pub mod Row
-- Shifts: the numbered shift cases
pub mod Shifts
-- inner: what private contracts go by
pub mod inner

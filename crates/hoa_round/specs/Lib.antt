-- Trees: the formula that is written, as a standard formula
pub mod Trees
-- Back: what comes back when a text that was written is read
pub mod Back

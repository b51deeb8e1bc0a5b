-- Going: walking a list of edges
pub mod Going
-- Conditions: whether the marks meet a condition
pub mod Conditions
-- Lassos: from the walks along its two lists to a lasso
pub mod Lassos
-- Telling: from what the parts give to the whole promise
pub mod Telling
-- Unique: two texts get one result, and which are accepted
pub mod Unique

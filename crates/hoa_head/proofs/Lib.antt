-- Items: what stands behind the header of an item; the items one after the other
pub mod Items
-- Openings: `HOA: v1`
pub mod Openings
-- Promises: two results that are allowed say the same; the header of a text always ends
pub mod Promises
-- Examples: the rules' own examples of headers
pub mod Examples

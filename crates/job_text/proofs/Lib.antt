-- Pad: zeros after what is written
pub mod Pad
-- Text: a text cut into lines
pub mod Text
-- Lines: the line at a place, and its key
pub mod Lines
-- Heads: the lines before the edges
pub mod Heads
-- Bodies: the edge lines, the end line and what follows it
pub mod Bodies
-- Jobs: the whole text
pub mod Jobs
-- Tables: what the tables hold once a text was read
pub mod Tables
-- Promises: one result for one input
pub mod Promises
-- Examples: the rules' own examples
pub mod Examples

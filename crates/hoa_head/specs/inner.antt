-- What private functions ask and promise.
-- Openings: `HOA: v1`. Turns: where reading goes on behind an item.
pub mod Openings
pub mod Turns

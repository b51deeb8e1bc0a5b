-- Deciding: why a verdict is right. Showing: why a look round may come before. Answering: the answer by its first cause. Ranks: how large r is. Unique, Demand, Depths, Circling: what follows
-- from the judge's promise alone. DepthCases: a worked example of the depth.
pub mod Deciding
pub mod Showing
pub mod Answering
pub mod Ranks
pub mod Unique
pub mod Demand
pub mod Depths
pub mod Circling
pub mod DepthCases

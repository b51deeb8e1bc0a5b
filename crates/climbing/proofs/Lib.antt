-- Climbs: the laws of climbs, over the level and the number of marks
pub mod Climbs
-- Lists: lists made of runs of cells
pub mod Lists
-- Looped: the table with a loop at each stop state
pub mod Looped
-- Numbers: state numbers and positions, as products
pub mod Numbers
-- Order: rows and the order of the translated edges
pub mod Order
-- Runs: the run of a state is its row
pub mod Runs
-- StopStates: stop states are those with an empty row
pub mod StopStates

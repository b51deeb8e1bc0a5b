-- Lines: what a line that was written says
pub mod Lines
-- Round: reading a text that was written gives the table back
pub mod Round
-- Lists: the lists of a table that is not refused, and the limits
pub mod Lists
-- Size: how long a text is at most
pub mod Size
-- Unique: one result for one input
pub mod Unique
-- Examples: some texts
pub mod Examples

-- Written: the text that is written for a table; its edge lines are in job_put_edges/specs/Edges.antt
pub mod Written
-- Writing: what the writer gives for every input
pub mod Writing
-- Back: what reading the text gives
pub mod Back

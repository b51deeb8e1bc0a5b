-- Writing: the refusals of a writer in their order, and what comes back
pub mod Writing

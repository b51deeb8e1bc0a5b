-- Edges: the edge lines, which job_writer/specs/Written.antt cites
pub mod Edges
-- inner: what the functions ask
pub mod inner

-- What private functions ask and promise; nothing that a caller of the judge has to believe.
-- Writing: the lasso that is written.
pub mod Writing

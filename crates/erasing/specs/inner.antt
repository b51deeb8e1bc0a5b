-- What judge and divide ask and promise; nothing that a caller of the judge has to believe.
-- Judgement: the judgement of a part.
pub mod Judgement

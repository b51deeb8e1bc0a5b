-- What the steps of a judgement ask and promise; nothing that a caller of the judge has to believe.
-- Sentence: what a union of marks says of its part. Turning: whether a part has an inner edge. Judged: the depth in what a judgement comes to.
pub mod Sentence
pub mod Turning
pub mod Judged

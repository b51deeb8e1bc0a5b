-- What the functions that choose the lasso's knot ask and promise; nothing that a caller of the judge has to believe.
-- Choice: the choice of the knot.
pub mod Choice

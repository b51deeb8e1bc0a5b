-- What the functions of the hunt ask and promise; nothing that a caller of the judge has to believe.
-- Hunt: the hunt for a part that holds an accepted lasso.
pub mod Hunt

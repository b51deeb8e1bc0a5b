-- Trees: the formula that is written is a standard one, with the condition's marks and meaning
pub mod Trees
-- Means: it means the condition
pub mod Means
-- Conds: it is a condition of the format's grammar
pub mod Conds
-- Docs: the text that is written as a tree of the format's grammar
pub mod Docs
-- Lists: lists that are made one by one
pub mod Lists
-- Says: what the tree of a written text says
pub mod Says
-- Back: what is written is a text of the subset that says the table and the condition
pub mod Back
-- Round: reading what was written gives the same
pub mod Round

-- Runs: what a machine does at the first token of a text
pub mod Runs
-- Wants: a token that is found where an INT or a STRING is wanted
pub mod Wants
-- Finishes: the tokens of a text end with the text's end, and a machine over them is never cut short
pub mod Finishes

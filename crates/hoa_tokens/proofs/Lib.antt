-- Sizes: how many bytes a gap and a token take
pub mod Sizes
-- Next: the tokens from a place on are the token that is found there, and those behind it; what a token takes
pub mod Next
-- Runs: runs, the same bytes and keys, at a place of a text
pub mod Runs
-- Gaps: blanks and comments at a place of a text
pub mod Gaps
-- Strings: the closing quote behind a place of a text
pub mod Strings
-- Numbers: what digits spell
pub mod Numbers
-- Fronts: the token at a place, by the byte that stands there
pub mod Fronts
-- Founds: what each form reads is the token of the rule
pub mod Founds
-- Unique: two tokens that are found at one place are the same
pub mod Unique
-- Examples: the rules' own examples, computed from the definitions
pub mod Examples

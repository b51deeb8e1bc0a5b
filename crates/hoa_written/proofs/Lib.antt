-- Sigs: the marks of an edge
pub mod Sigs
-- Formulas: the formula of a condition
pub mod Formulas
-- Spells: bytes that spell tokens
pub mod Spells
-- Ints: the digits of a number spell it
pub mod Ints
-- Words: the words, headers, signs and keys of a text
pub mod Words
-- Tokens: the tokens of what is written
pub mod Tokens
-- Back: what reading back rests on
pub mod Back
-- Examples: some texts
pub mod Examples

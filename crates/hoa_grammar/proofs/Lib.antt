-- Leads: tokens that lead through a formula
pub mod Leads
-- Opens: the token that may stand behind an item
pub mod Opens
-- Pairs: the limit of pairs in a formula
pub mod Pairs
-- FormulaTexts: formulas in a header
pub mod FormulaTexts
-- Onward: a stretch leads on, or passes a limit
pub mod Onward
-- Names: the same bytes
pub mod Names
-- Takes: which items and rows fit behind what was read
pub mod Takes
-- Heads: the items of a header are walked as they fit
pub mod Heads
-- HeadSound: what is walked to behind `--BODY--` is a header of the subset
pub mod HeadSound
-- RowTakes: which edges and rows fit behind what was read
pub mod RowTakes
-- RowSound: what is walked from behind `--BODY--` is rows of the subset
pub mod RowSound
-- RowWalks: edges and rows are walked as they fit
pub mod RowWalks
-- Ahead: items fit one behind the other exactly if all of them do
pub mod Ahead
-- RowsAhead: rows fit one behind the other exactly if they are rows of the subset
pub mod RowsAhead
-- Runs: a run over placed tokens is a walk over tokens; nothing follows the text's end
pub mod Runs
-- Crowd: numbers that differ are no more than they can be
pub mod Crowd
-- Accepted: what is read is a text of the subset
pub mod Accepted
-- Complete: every text of the subset within the limits is read
pub mod Complete
-- Exact: a text is read exactly if it is one of the subset
pub mod Exact
